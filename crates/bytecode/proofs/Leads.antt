-- Where instructions lead, by ways.
use Rattle.std.proofs.Common.{◌≡◌, ◌≢◌, ◌⊎◌, ℕ, suc, ◌-◌, ◌≤◌, List, [], ◌∷◌, length, drop, Some, refl, arith, inl, inr}
use Rattle.std.specs.Prelude.{Contains}
use Rattle.std.proofs.lemmas.List.Elements.{Contains-push_cases, Contains-push}
use Rattle.bytecode.specs.Code.{Code, Instr}
use Rattle.bytecode.specs.Valid.{Standing, cancelled_in, leads_from, AsksOpen}
use Rattle.bytecode.specs.declared.walk.Successor.{Successor}
use Rattle.bytecode.specs.declared.walk.Successor.TheVariants.{On, To, Both, Opens, Closes, Cancels, CancelsOuter, Ends}
use Rattle.bytecode.specs.inner.Walking.{way_of}

abbrev pub leads_by : Code → ℕ → List ℕ → Successor → List Standing
leads_by code q bs On = (suc q, bs) ∷ []
leads_by code q bs (To to) = (to, bs) ∷ []
leads_by code q bs (Both to) = (suc q, bs) ∷ (to, bs) ∷ []
leads_by code q bs Opens = (suc q, q ∷ bs) ∷ []
leads_by code q [] Closes = []
leads_by code q (b ∷ bs) Closes = (suc q, bs) ∷ []
leads_by code q bs Cancels = cancelled_in code bs
leads_by code q bs (CancelsOuter n) = cancelled_in code (drop (n - 1) bs)
leads_by code q bs Ends = []

abbrev pub asks_by : Successor → List ℕ → Type 0
asks_by Closes bs = bs ≢ []
asks_by Cancels bs = bs ≢ []
asks_by (CancelsOuter n) bs = n ≤ length bs
asks_by Ends bs = bs ≡ []
asks_by w bs = Unit {0}

pub leads_so : (code : Code) (q : ℕ) (bs : List ℕ) (i : Instr) → leads_from code q bs (Some i) ≡ leads_by code q bs (way_of i)
leads_so code q [] (Instr.Constant d n) = refl
leads_so code q (x ∷ bs) (Instr.Constant d n) = refl
leads_so code q bs i = refl

pub asks_to : (bs : List ℕ) (i : Instr) → asks_by (way_of i) bs → AsksOpen (Some i) bs
asks_to bs (Instr.Constant d n) h = h
asks_to bs i h = h

pub asks_of : (bs : List ℕ) (i : Instr) → AsksOpen (Some i) bs → asks_by (way_of i) bs
asks_of bs (Instr.Constant d n) h = h
asks_of bs i h = h

-- the members of lists of one and of two
pub only : {X : Type 0} (y x : X) → Contains (y ∷ []) x → y ≡ x
only y x c = elim (Contains-push_cases [] y x c) [
  | inl d ↦ absurd (omega (arith, d.1))
  | inr e ↦ e
]

pub either : {X : Type 0} (y z x : X) → Contains (y ∷ z ∷ []) x → (y ≡ x) ⊎ (z ≡ x)
either y z x c = elim (Contains-push_cases (y ∷ []) z x c) [
  | inl d ↦ inl (only y x d)
  | inr e ↦ inr e
]

pub first_of : {X : Type 0} (y : X) → Contains (y ∷ []) y
first_of y = Contains-push [] y
