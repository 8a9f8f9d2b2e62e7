-- Sets of functions, in the form that the demands use.
use Rattle.std.specs.Prelude.{◌≡◌, ℕ, List, not}
use Rattle.syntax.specs.Tree.{Program}
use Rattle.safety.specs.Sites.{attributes_of}
use Rattle.safety.specs.Safe.{FunctionSet}
use Rattle.safety.specs.Faults.{says_safe}

-- the functions that are not in a set
abbrev pub rest_of : FunctionSet → FunctionSet
rest_of set f = not (set f)

-- the functions that are declared safe
abbrev pub Claims : Program → FunctionSet → Type 0
Claims p set = (f : List ℕ) → set f ≡ says_safe (attributes_of p f)
