-- The first demand that is not met, as private checks report it.
use Rattle.std.specs.Prelude.{◌≡◌, Option}
use Rattle.syntax.specs.Tree.{Program}
use Rattle.syntax.specs.Typing.{first_unmet}
use Rattle.syntax.specs.declared.violation.Violation.{Violation}
use Rattle.syntax.specs.Violations.{unmet_in}
use Rattle.safety.specs.Safe.{FunctionSet, TellsSafe, TellsOuter}
use Rattle.safety.specs.Faults.{safety_demands}

-- this is the first demand that is not met, given the sets of the safe functions and of those that lead to an outer
-- transaction
abbrev pub Judges : Program → Option Violation → Type 0
Judges p found =
    (safe : FunctionSet) × (outer : FunctionSet) × TellsSafe p safe × TellsOuter p outer
    × (unmet_in found ≡ first_unmet (safety_demands p safe outer))
