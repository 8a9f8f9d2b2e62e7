-- The begins that are open at a place are reached, each with those behind it; and where a way goes on.
use Rattle.std.proofs.Common.{◌≡◌, ℕ, zero, suc, ◌-◌, List, [], ◌∷◌, drop, Option, Some, None, refl, sym, ap, ◌∙◌, subst, arith, inl, inr}
use Rattle.std.specs.Prelude.{slice_get, Contains}
use Rattle.std.proofs.lemmas.List.Elements.{Contains-push, Contains-append_left}
use Rattle.bytecode.specs.Code.{Code, FunctionCode, Instr}
use Rattle.bytecode.specs.Valid.{cancel_of, cancelled_in, leads_from, IsReached, at_first, further}
use Rattle.bytecode.proofs.Leads.{only, either, first_of}
use Rattle.frames.proofs.Leading.{Way, way_of, leads_by, leads_so}

-- a begin stands at the place
abbrev pub IsBeginAt : Code → ℕ → Type 0
IsBeginAt code b = (to : ℕ) × (slice_get code.instructions b ≡ Some (Instr.Begin to))

-- each open begin is one, and is reached with those behind it open
abbrev pub AreReached : Code → FunctionCode → List ℕ → Type 0
AreReached code f [] = Unit {0}
AreReached code f (b ∷ bs) = IsReached code f b bs × IsBeginAt code b × AreReached code f bs

begin_of : (i : Instr) → way_of i ≡ Way.Opens → (to : ℕ) × (i ≡ Instr.Begin to)
begin_of (Instr.Constant d n) e = cc e
begin_of (Instr.Move d a) e = cc e
begin_of (Instr.Compute op u d a c) e = cc e
begin_of (Instr.Negate u d a) e = cc e
begin_of (Instr.Complement u d a) e = cc e
begin_of (Instr.Extend d a) e = cc e
begin_of (Instr.Low d a) e = cc e
begin_of (Instr.Jump to) e = cc e
begin_of (Instr.JumpZero a to) e = cc e
begin_of (Instr.JumpNonzero a to) e = cc e
begin_of (Instr.Check j n) e = cc e
begin_of (Instr.Read d a) e = cc e
begin_of (Instr.ReadAt d a n j) e = cc e
begin_of (Instr.Write a r) e = cc e
begin_of (Instr.WriteAt a n j r) e = cc e
begin_of (Instr.Begin to) e = (to, refl)
begin_of Instr.Commit e = cc e
begin_of Instr.Cancel e = cc e
begin_of (Instr.CancelOuter n) e = cc e
begin_of Instr.Irrevocable e = cc e
begin_of (Instr.Call n d args) e = cc e
begin_of (Instr.Return a) e = cc e
begin_of (Instr.PrintText n) e = cc e
begin_of (Instr.PrintNumber u a) e = cc e

module _ (code : Code) (f : FunctionCode) where
  -- those behind so many
  pub reached_behind : (n : ℕ) (bs : List ℕ) → AreReached code f bs → AreReached code f (drop n bs)
  reached_behind zero bs a = a
  reached_behind (suc n) [] a = tt
  reached_behind (suc n) (b ∷ bs) a = reached_behind n bs a.2

  after_cancelled : (bs : List ℕ) (q' : ℕ) (bs' : List ℕ) → AreReached code f bs → Contains (cancelled_in code bs) (q', bs') → AreReached code f bs'
  after_cancelled [] q' bs' a c = absurd (omega (arith, c.1))
  after_cancelled (b ∷ bs) q' bs' a c =
      let k : Contains ((a.1.0, bs) ∷ []) (q', bs') = subst (λ o. Contains (cancel_of o [] (λ to. (to, bs) ∷ [])) (q', bs')) a.1.1 c in
      subst (AreReached code f) (ap (λ p. p.1) (only (a.1.0, bs) (q', bs') k)) a.2

  reached_on : (q : ℕ) (i : Instr) (w : Way) (bs : List ℕ) (q' : ℕ) (bs' : List ℕ) → IsReached code f q bs → slice_get code.instructions q ≡ Some i → way_of i ≡ w → AreReached code f bs → Contains (leads_by code q bs w) (q', bs') → AreReached code f bs'
  reached_on q i Way.On bs q' bs' r e w a c = subst (AreReached code f) (ap (λ p. p.1) (only (suc q, bs) (q', bs') c)) a
  reached_on q i (Way.To to) bs q' bs' r e w a c = subst (AreReached code f) (ap (λ p. p.1) (only (to, bs) (q', bs') c)) a
  reached_on q i (Way.Both to) bs q' bs' r e w a c = elim (either (suc q, bs) (to, bs) (q', bs') c) [
    | inl h ↦ subst (AreReached code f) (ap (λ p. p.1) h) a
    | inr h ↦ subst (AreReached code f) (ap (λ p. p.1) h) a
  ]
  reached_on q i Way.Opens bs q' bs' r e w a c =
      let b = begin_of i w in
      subst (AreReached code f) (ap (λ p. p.1) (only (suc q, q ∷ bs) (q', bs') c)) (r, (b.0, e ∙ ap Some b.1), a)
  reached_on q i Way.Closes [] q' bs' r e w a c = absurd (omega (arith, c.1))
  reached_on q i Way.Closes (b ∷ bs) q' bs' r e w a c = subst (AreReached code f) (ap (λ p. p.1) (only (suc q, bs) (q', bs') c)) a.2
  reached_on q i Way.Cancels bs q' bs' r e w a c = after_cancelled bs q' bs' a c
  reached_on q i (Way.CancelsOuter n) bs q' bs' r e w a c = after_cancelled (drop (n - 1) bs) q' bs' (reached_behind (n - 1) bs a) c
  reached_on q i Way.Ends bs q' bs' r e w a c = absurd (omega (arith, c.1))

  reached_in : (q : ℕ) (o : Option Instr) (bs : List ℕ) (q' : ℕ) (bs' : List ℕ) → IsReached code f q bs → slice_get code.instructions q ≡ o → AreReached code f bs → Contains (leads_from code q bs o) (q', bs') → AreReached code f bs'
  reached_in q None bs q' bs' r e a c = absurd (omega (arith, c.1))
  reached_in q (Some i) bs q' bs' r e a c = reached_on q i (way_of i) bs q' bs' r e refl a (subst (λ l. Contains l (q', bs')) (leads_so code q bs i) c)

  pub are_reached : (q : ℕ) (bs : List ℕ) → IsReached code f q bs → AreReached code f bs
  are_reached q bs at_first = tt
  are_reached q bs (further {q = r} {xs = o} w c) = reached_in r (slice_get code.instructions r) o q bs w refl (are_reached r o w) c

  -- where a way goes on from an instruction
  module _ (q : ℕ) (bs : List ℕ) (i : Instr) (r : IsReached code f q bs) (at : slice_get code.instructions q ≡ Some i) where
    pub way_on : (to : ℕ) (bs' : List ℕ) (w : Way) → way_of i ≡ w → Contains (leads_by code q bs w) (to, bs') → IsReached code f to bs'
    way_on to bs' w e c = further r (subst (λ o. Contains (leads_from code q bs o) (to, bs')) (sym at) (subst (λ l. Contains l (to, bs')) (sym (leads_so code q bs i ∙ ap (leads_by code q bs) e)) c))

    pub to_next : way_of i ≡ Way.On → IsReached code f (suc q) bs
    to_next e = way_on (suc q) bs Way.On e (first_of (suc q, bs))

    pub to_place : (to : ℕ) → way_of i ≡ Way.To to → IsReached code f to bs
    to_place to e = way_on to bs (Way.To to) e (first_of (to, bs))

    pub or_next : (to : ℕ) → way_of i ≡ Way.Both to → IsReached code f (suc q) bs
    or_next to e = way_on (suc q) bs (Way.Both to) e (Contains-append_left ((suc q, bs) ∷ []) ((to, bs) ∷ []) (suc q, bs) (first_of (suc q, bs)))

    pub or_place : (to : ℕ) → way_of i ≡ Way.Both to → IsReached code f to bs
    or_place to e = way_on to bs (Way.Both to) e (Contains-push ((suc q, bs) ∷ []) (to, bs))

    pub to_inside : way_of i ≡ Way.Opens → IsReached code f (suc q) (q ∷ bs)
    to_inside e = way_on (suc q) (q ∷ bs) Way.Opens e (first_of (suc q, q ∷ bs))

  pub to_outside : (q b : ℕ) (bs : List ℕ) (i : Instr) → IsReached code f q (b ∷ bs) → slice_get code.instructions q ≡ Some i → way_of i ≡ Way.Closes → IsReached code f (suc q) bs
  to_outside q b bs i r at e = way_on q (b ∷ bs) i r at (suc q) bs Way.Closes e (first_of (suc q, bs))

  -- where a begin says that a cancel of it goes on
  pub to_cancelled : (q : ℕ) (begins : List ℕ) (b to : ℕ) (bs : List ℕ) (i : Instr) (w : Way) → IsReached code f q begins → slice_get code.instructions q ≡ Some i → way_of i ≡ w → leads_by code q begins w ≡ cancelled_in code (b ∷ bs) → slice_get code.instructions b ≡ Some (Instr.Begin to) → IsReached code f to bs
  to_cancelled q begins b to bs i w r at e l begin = way_on q begins i r at to bs w e (subst (λ xs. Contains xs (to, bs)) (sym (l ∙ ap (λ o. cancel_of o [] (λ x. (x, bs) ∷ [])) begin)) (first_of (to, bs)))
