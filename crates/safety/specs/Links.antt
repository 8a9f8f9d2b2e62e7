-- The least set of functions that satisfies given links.
use Rattle.std.specs.Prelude.{ℕ, List, Option, Some, None, IsTrue, Contains}
use Rattle.safety.specs.Safe.{FunctionSet}

-- a function is in a set if another one is, or unconditionally
pub record Link : Type 0 where
  pub caller : List ℕ
  pub callee : Option (List ℕ)

abbrev pub IsIn : FunctionSet → Option (List ℕ) → Type 0
IsIn set None = Unit {0}
IsIn set (Some f) = IsTrue (set f)

-- a set that satisfies all of these links
abbrev pub KeepsTo : List Link → FunctionSet → Type 0
KeepsTo links set = (l : Link) → Contains links l → IsIn set l.callee → IsTrue (set l.caller)

-- the least set that satisfies all of these links: each other one includes it
pub record IsLeast (links : List Link) (set : FunctionSet) : Type 0 where
  pub keeps : KeepsTo links set
  pub least : (other : FunctionSet) → KeepsTo links other → (f : List ℕ) → IsTrue (set f) → IsTrue (other f)
