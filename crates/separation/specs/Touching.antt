-- Touching functions, and programs that access shared data only in transactions: none of these has a race between a
-- transaction and an unprotected access, which C11 5.1.2.4 leaves undefined.
use Rattle.std.specs.Prelude.{◌≡◌, ℕ, List, [], false, not, ◌||◌, IsTrue, Contains, Decides, Some, codes}
use Rattle.std.specs.List.{flat_map}
use Rattle.syntax.specs.Tree.{Span, Program}
use Rattle.syntax.specs.Typing.{IsTypedProgram, Demand, demand, first_unmet}
use Rattle.safety.specs.Sites.{Construct, Calls, Uses, Site, sites_of}
use Rattle.safety.specs.Safe.{FunctionSet, IsSafeProgram}

-- an access to shared data, or a call of a function of the set
abbrev pub IsAccess : (List ℕ → Type 0) → Construct → Type 0
IsAccess set (Calls f) = set f
IsAccess set (Uses x) = Unit {0}
IsAccess set c = ⊥

-- an unprotected access or call of a function of the set: no transaction of its function encloses it
abbrev pub Touches : (List ℕ → Type 0) → Site → Type 0
Touches set s = (s.in_any ≡ false) × IsAccess set s.construct

-- each function with an unprotected access or call into the set is in the set
abbrev pub IsTouchingSet : Program → (List ℕ → Type 0) → Type 0
IsTouchingSet p set = (f : List ℕ) (s : Site) → Contains (sites_of p f) s → Touches set s → set f

-- a function touches shared data if it is in the least touching set: in each touching set
abbrev pub IsTouching : Program → List ℕ → Type 0
IsTouching p f = (set : FunctionSet) → IsTouchingSet p (λ g. IsTrue (set g)) → IsTrue (set f)

-- the test of whether a function touches
abbrev pub TellsTouching : Program → FunctionSet → Type 0
TellsTouching p touching = (f : List ℕ) → Decides (touching f) (IsTouching p f)

-- a program that is typed and safe, and whose worker doesn't touch
pub record IsAccepted (p : Program) : Type 0 where
  pub typed : IsTypedProgram p
  pub safe : IsSafeProgram p
  pub separate : IsTouching p (codes "worker") → ⊥

-- 50: no access is unprotected; 51: no call of a touching function is
abbrev pub demands_at : FunctionSet → Site → Construct → List Demand
demands_at touching s (Uses x) = demand 50 s.span s.in_any
demands_at touching s (Calls f) = demand 51 s.span (s.in_any || not (touching f))
demands_at touching s c = []

-- the demands of these sites in the body of worker, given the touching functions
abbrev pub separation_demands : FunctionSet → List Site → List Demand
separation_demands touching sites = flat_map (λ s. demands_at touching s s.construct) sites

-- the first demand of separation that a program does not meet has this number and span
abbrev pub IsSeparationFault : ℕ → Span → Program → Type 0
IsSeparationFault n at p =
    (touching : FunctionSet) × TellsTouching p touching
    × (first_unmet (separation_demands touching (sites_of p (codes "worker"))) ≡ Some (n, at))
