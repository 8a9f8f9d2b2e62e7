-- Which functions of a program can be properties: those that take nothing and return an int, and whose call is a single
-- step of memory, since it does nothing that can't be undone.
use Rattle.std.specs.Prelude.{◌≡◌, ℕ, List, [], Some, IsTrue, Contains, Decides}
use Rattle.lex.specs.declared.token.Scalar.TheVariants.{Int}
use Rattle.syntax.specs.Names.{definition_of}
use Rattle.syntax.specs.Tree.{Function, Program, Stmts}
use Rattle.safety.specs.Safe.{FunctionSet}
use Rattle.safety.specs.Sites.{Calls, Construct, Prints, Relaxes, Site, sites_of}

-- what can't be undone: a print, a relaxed transaction, or a call of a function of the set
abbrev pub CannotBeUndone : (List ℕ → Type 0) → Construct → Type 0
CannotBeUndone set Prints = Unit {0}
CannotBeUndone set Relaxes = Unit {0}
CannotBeUndone set (Calls f) = set f
CannotBeUndone set c = ⊥

-- each function in which such a thing occurs is in the set
abbrev pub IsIrrevocableSet : Program → (List ℕ → Type 0) → Type 0
IsIrrevocableSet p set =
    (f : List ℕ) (s : Site) → Contains (sites_of p f) s → CannotBeUndone set s.construct → set f

-- irrevocable functions are those of the least such set: those that are in every such set
abbrev pub IsIrrevocable : Program → List ℕ → Type 0
IsIrrevocable p f = (set : FunctionSet) → IsIrrevocableSet p (λ g. IsTrue (set g)) → IsTrue (set f)

-- the test of which functions are irrevocable
abbrev pub TellsIrrevocable : Program → FunctionSet → Type 0
TellsIrrevocable p irrevocable = (f : List ℕ) → Decides (irrevocable f) (IsIrrevocable p f)

-- a function of this name is defined, as int NAME(void), and is not irrevocable
pub record IsAskable (p : Program) (x : List ℕ) : Type 0 where
  pub function : Function
  pub body : Stmts
  pub defined : definition_of p x ≡ Some (function, body)
  pub gives_int : function.result ≡ Some Int
  pub takes_nothing : function.parameters ≡ []
  pub revocable : IsIrrevocable p x → ⊥
