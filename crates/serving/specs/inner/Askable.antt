-- The facts about functions of a file that are requested as properties.
use Rattle.std.specs.Prelude.{◌≡◌, ◌&&◌, ℕ, List, [], false, Option, None, Some, if◌then◌else◌, is_some, bytes_eq}
use Rattle.lex.specs.declared.token.Scalar.TheVariants.{Int}
use Rattle.syntax.specs.Tree.{Defines, Function, Item, Shares}
use Rattle.safety.specs.Safe.{FunctionSet}

-- a function that takes nothing, returns an int, and is not in the set
abbrev pub MayBeAsked : FunctionSet → Function → Type 0
MayBeAsked set f = (f.result ≡ Some Int) × (f.parameters ≡ []) × (set f.name.text ≡ false)

-- the function that an item defines by this name, if it does
abbrev pub definition_in : Item → List ℕ → Option Function
definition_in (Defines f) x = if is_some f.body && bytes_eq f.name.text x then Some f else None
definition_in (Shares gs) x = None
