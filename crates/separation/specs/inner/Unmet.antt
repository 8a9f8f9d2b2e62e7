-- The first demand that is not met, as private checks report it.
use Rattle.std.specs.Prelude.{◌≡◌, codes, Option}
use Rattle.syntax.specs.Tree.{Program}
use Rattle.syntax.specs.Typing.{first_unmet}
use Rattle.safety.specs.Sites.{sites_of}
use Rattle.safety.specs.Safe.{FunctionSet}
use Rattle.syntax.specs.declared.violation.Violation.{Violation}
use Rattle.syntax.specs.Violations.{unmet_in}
use Rattle.separation.specs.Touching.{TellsTouching, separation_demands}

-- this is the first demand that is not met, given the set of the touching functions
abbrev pub Judges : Program → Option Violation → Type 0
Judges p found =
    (touching : FunctionSet) × TellsTouching p touching
    × (unmet_in found ≡ first_unmet (separation_demands touching (sites_of p (codes "worker"))))
