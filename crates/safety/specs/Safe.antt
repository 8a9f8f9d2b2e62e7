-- Safe functions, and programs whose atomic transactions hold nothing unsafe (the C++ draft on transactions 1.1, 2012).
use Rattle.std.specs.Prelude.{◌≡◌, ℕ, List, Bool, true, IsTrue, All, Contains, Decides}
use Rattle.syntax.specs.declared.tree.Attribute.TheVariants.{Safe, Unsafe}
use Rattle.syntax.specs.Tree.{Program}
use Rattle.safety.specs.Sites.{Construct, Prints, Relaxes, OpensOuter, Cancels, CancelsOuter, Calls, Site, sites_of}
use Rattle.safety.specs.Sites.{attributes_of}

-- a set of functions, as a test of their names
abbrev pub FunctionSet : Type 0
FunctionSet = List ℕ → Bool

-- a safe construct, given the safe functions: a print and a relaxed transaction are unsafe
abbrev pub IsSafeConstruct : (List ℕ → Type 0) → Construct → Type 0
IsSafeConstruct safe Prints = ⊥
IsSafeConstruct safe Relaxes = ⊥
IsSafeConstruct safe (Calls f) = safe f
IsSafeConstruct safe c = Unit {0}

-- no function of the set is declared unsafe, contains anything unsafe or calls a function outside the set
abbrev pub IsSafeSet : Program → (List ℕ → Type 0) → Type 0
IsSafeSet p set =
    (f : List ℕ) → set f →
    (Contains (attributes_of p f) Unsafe → ⊥) × All (λ s. IsSafeConstruct set s.construct) (sites_of p f)

-- safe functions are those of the greatest safe set: those that some safe set has
abbrev pub IsSafe : Program → List ℕ → Type 0
IsSafe p f = (set : FunctionSet) × IsTrue (set f) × IsSafeSet p (λ g. IsTrue (set g))

-- the test of whether a function is safe
abbrev pub TellsSafe : Program → FunctionSet → Type 0
TellsSafe p safe = (f : List ℕ) → Decides (safe f) (IsSafe p f)

-- an outer transaction, or a call of a function of the set (the draft's outer transactions, which no atomic one may
-- enclose)
abbrev pub Opens : (List ℕ → Type 0) → Construct → Type 0
Opens set OpensOuter = Unit {0}
Opens set (Calls f) = set f
Opens set c = ⊥

-- each function that contains an outer transaction, or a call into the set, is in the set
abbrev pub IsOuterSet : Program → (List ℕ → Type 0) → Type 0
IsOuterSet p set = (f : List ℕ) (s : Site) → Contains (sites_of p f) s → Opens set s.construct → set f

-- a function leads to an outer transaction if it is in the least set that has each function with an outer
-- transaction or a call into the set: in each such set
abbrev pub LeadsToOuter : Program → List ℕ → Type 0
LeadsToOuter p f = (set : FunctionSet) → IsOuterSet p (λ g. IsTrue (set g)) → IsTrue (set f)

-- the test of whether a function leads to an outer transaction
abbrev pub TellsOuter : Program → FunctionSet → Type 0
TellsOuter p outer = (f : List ℕ) → Decides (outer f) (LeadsToOuter p f)

-- an atomic transaction contains nothing unsafe, and only it may contain a cancel (the draft's cancel statement)
abbrev pub KeepsAtomic : Program → Site → Type 0
KeepsAtomic p s = (s.atomic ≡ true → IsSafeConstruct (IsSafe p) s.construct) × (s.construct ≡ Cancels → s.atomic ≡ true)

-- no outer transaction begins inside an atomic one, and an outer cancel is inside an outer one
abbrev pub KeepsOuter : Program → Site → Type 0
KeepsOuter p s =
    (s.atomic ≡ true → Opens (LeadsToOuter p) s.construct → ⊥) × (s.construct ≡ CancelsOuter → s.outer ≡ true)

-- each transaction contains only what it may, each cancel is where it may be, and each function that is declared safe
-- is safe
pub record IsSafeProgram (p : Program) : Type 0 where
  pub atomic : (f : List ℕ) → All (KeepsAtomic p) (sites_of p f)
  pub outer : (f : List ℕ) → All (KeepsOuter p) (sites_of p f)
  pub declared : (f : List ℕ) → Contains (attributes_of p f) Safe → IsSafe p f
