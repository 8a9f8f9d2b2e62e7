-- Where instructions lead, by eight ways.
use Rattle.std.proofs.Common.{◌≡◌, ◌≢◌, ◌⊎◌, ℕ, suc, ◌-◌, ◌≤◌, List, [], ◌∷◌, length, drop, Some, refl, arith, inl, inr}
use Rattle.std.specs.Prelude.{Contains}
use Rattle.std.proofs.lemmas.List.Elements.{Contains-push_cases, Contains-push}
use Rattle.bytecode.specs.Code.{Code, Instr}
use Rattle.bytecode.specs.Valid.{Standing, cancelled_in, leads_from, AsksOpen}

pub data Way : Type 0 where
  On : Way
  To : (to : ℕ) → Way
  Both : (to : ℕ) → Way
  Opens Closes Cancels Ends : Way
  CancelsOuter : (levels : ℕ) → Way

abbrev pub way_of : Instr → Way
way_of (Instr.Jump to) = Way.To to
way_of (Instr.JumpZero a to) = Way.Both to
way_of (Instr.JumpNonzero a to) = Way.Both to
way_of (Instr.Begin to) = Way.Opens
way_of Instr.Commit = Way.Closes
way_of Instr.Cancel = Way.Cancels
way_of (Instr.CancelOuter n) = Way.CancelsOuter n
way_of (Instr.Return a) = Way.Ends
way_of i = Way.On

abbrev pub leads_by : Code → ℕ → List ℕ → Way → List Standing
leads_by code q bs Way.On = (suc q, bs) ∷ []
leads_by code q bs (Way.To to) = (to, bs) ∷ []
leads_by code q bs (Way.Both to) = (suc q, bs) ∷ (to, bs) ∷ []
leads_by code q bs Way.Opens = (suc q, q ∷ bs) ∷ []
leads_by code q [] Way.Closes = []
leads_by code q (b ∷ bs) Way.Closes = (suc q, bs) ∷ []
leads_by code q bs Way.Cancels = cancelled_in code bs
leads_by code q bs (Way.CancelsOuter n) = cancelled_in code (drop (n - 1) bs)
leads_by code q bs Way.Ends = []

abbrev pub asks_by : Way → List ℕ → Type 0
asks_by Way.Closes bs = bs ≢ []
asks_by Way.Cancels bs = bs ≢ []
asks_by (Way.CancelsOuter n) bs = n ≤ length bs
asks_by Way.Ends bs = bs ≡ []
asks_by w bs = Unit {0}

pub leads_so : (code : Code) (q : ℕ) (bs : List ℕ) (i : Instr) → leads_from code q bs (Some i) ≡ leads_by code q bs (way_of i)
leads_so code q [] (Instr.Constant d n) = refl
leads_so code q (x ∷ bs) (Instr.Constant d n) = refl
leads_so code q [] (Instr.Move d a) = refl
leads_so code q (x ∷ bs) (Instr.Move d a) = refl
leads_so code q [] (Instr.Compute op t d a b) = refl
leads_so code q (x ∷ bs) (Instr.Compute op t d a b) = refl
leads_so code q [] (Instr.Negate t d a) = refl
leads_so code q (x ∷ bs) (Instr.Negate t d a) = refl
leads_so code q [] (Instr.Complement u d a) = refl
leads_so code q [] (Instr.Extend d a) = refl
leads_so code q [] (Instr.Low d a) = refl
leads_so code q (x ∷ bs) (Instr.Complement u d a) = refl
leads_so code q (x ∷ bs) (Instr.Extend d a) = refl
leads_so code q (x ∷ bs) (Instr.Low d a) = refl
leads_so code q [] (Instr.Jump to) = refl
leads_so code q (x ∷ bs) (Instr.Jump to) = refl
leads_so code q [] (Instr.JumpZero a to) = refl
leads_so code q (x ∷ bs) (Instr.JumpZero a to) = refl
leads_so code q [] (Instr.JumpNonzero a to) = refl
leads_so code q (x ∷ bs) (Instr.JumpNonzero a to) = refl
leads_so code q [] (Instr.Check i n) = refl
leads_so code q (x ∷ bs) (Instr.Check i n) = refl
leads_so code q [] (Instr.Read d c) = refl
leads_so code q (x ∷ bs) (Instr.Read d c) = refl
leads_so code q [] (Instr.ReadAt d c n i) = refl
leads_so code q (x ∷ bs) (Instr.ReadAt d c n i) = refl
leads_so code q [] (Instr.Write c a) = refl
leads_so code q (x ∷ bs) (Instr.Write c a) = refl
leads_so code q [] (Instr.WriteAt c n i a) = refl
leads_so code q (x ∷ bs) (Instr.WriteAt c n i a) = refl
leads_so code q [] (Instr.Begin to) = refl
leads_so code q (x ∷ bs) (Instr.Begin to) = refl
leads_so code q [] Instr.Commit = refl
leads_so code q (x ∷ bs) Instr.Commit = refl
leads_so code q [] Instr.Cancel = refl
leads_so code q (x ∷ bs) Instr.Cancel = refl
leads_so code q [] (Instr.CancelOuter n) = refl
leads_so code q (x ∷ bs) (Instr.CancelOuter n) = refl
leads_so code q [] Instr.Irrevocable = refl
leads_so code q (x ∷ bs) Instr.Irrevocable = refl
leads_so code q [] (Instr.Call g d args) = refl
leads_so code q (x ∷ bs) (Instr.Call g d args) = refl
leads_so code q [] (Instr.Return a) = refl
leads_so code q (x ∷ bs) (Instr.Return a) = refl
leads_so code q [] (Instr.PrintText k) = refl
leads_so code q (x ∷ bs) (Instr.PrintText k) = refl
leads_so code q [] (Instr.PrintNumber t a) = refl
leads_so code q (x ∷ bs) (Instr.PrintNumber t a) = refl

pub asks_of : (bs : List ℕ) (i : Instr) → AsksOpen (Some i) bs → asks_by (way_of i) bs
asks_of bs (Instr.Constant d n) h = h
asks_of bs (Instr.Move d a) h = h
asks_of bs (Instr.Compute op t d a b) h = h
asks_of bs (Instr.Negate t d a) h = h
asks_of bs (Instr.Complement u d a) h = h
asks_of bs (Instr.Extend d a) h = h
asks_of bs (Instr.Low d a) h = h
asks_of bs (Instr.Jump to) h = h
asks_of bs (Instr.JumpZero a to) h = h
asks_of bs (Instr.JumpNonzero a to) h = h
asks_of bs (Instr.Check i n) h = h
asks_of bs (Instr.Read d c) h = h
asks_of bs (Instr.ReadAt d c n i) h = h
asks_of bs (Instr.Write c a) h = h
asks_of bs (Instr.WriteAt c n i a) h = h
asks_of bs (Instr.Begin to) h = h
asks_of bs Instr.Commit h = h
asks_of bs Instr.Cancel h = h
asks_of bs (Instr.CancelOuter n) h = h
asks_of bs Instr.Irrevocable h = h
asks_of bs (Instr.Call g d args) h = h
asks_of bs (Instr.Return a) h = h
asks_of bs (Instr.PrintText k) h = h
asks_of bs (Instr.PrintNumber t a) h = h
