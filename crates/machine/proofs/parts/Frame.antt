-- A step of one thread keeps what holds of the part of another.
use Rattle.std.proofs.Common.{◌≡◌, ◌≢◌, ◌<◌, ◌≤◌, ◌+◌, ◌%◌, ◌⊎◌, inl, inr, ℕ, Bool, true, false, List, [], ◌∷◌, Option, None, Some, sym, ◌∙◌, ap, subst, get_or, arith}
use Rattle.std.specs.List.{AllByRecursion}
use Rattle.read_log.specs.Agreement.{Agrees}
use Rattle.read_log.specs.inner.Agreement.{AgreesBelow}
use Rattle.bytecode.specs.Effects.{Effect}
use Rattle.norec_core.specs.Attempts.{Attempt}
use Rattle.norec_core.specs.declared.step.Phase.{Phase}
use Rattle.norec_core.specs.declared.step.Phase.TheVariants.{AtOperation, ReadsLock, Stores, ValidatesEntry, ValidatesTime}
use Rattle.machine.specs.Explained.{has_lock}
use Rattle.machine.specs.inner.Invariant.{Begun, HasTaker, History, InHand, LeftIs, LockBy, LockIs, Moves, Now, Ordered, PartOk, Reaches, RecordOk, bound_of, next_snapshot}
use Rattle.machine.specs.Threads.{Thread}
use Rattle.machine.specs.Worlds.{Part, Record}

-- the lock is top or one more
pub lock_bounds : (h : History) (o : Option ℕ) → LockIs h o → (h.top ≤ h.lock) × (h.lock ≤ h.top + 1)
lock_bounds h None l = let e = l.0 in omega arith
lock_bounds h (Some t) l = omega arith

-- an even lock value that the lock has is top
pub even_lock : (h : History) (o : Option ℕ) → h.top % 2 ≡ 0 → LockIs h o → h.lock % 2 ≡ 0 → h.lock ≡ h.top
even_lock h None even l e = l.0
even_lock h (Some t) even l e = omega arith

pub snapshot_le : (h : History) (t : ℕ) (x : Record) (b : Bool) → LeftIs h t x b → x.snapshot ≤ h.top
snapshot_le h t x true k = let e = k.0 in omega arith
snapshot_le h t x false k = k.0

left_frame : (t u : ℕ) (h k : History) (x : Record) (b : Bool) → Moves t h k → LeftIs h u x b → LeftIs k u x b
left_frame t u h k x true m p = let le = p.0 in let top = m.top in (omega arith, m.owner x.snapshot (omega arith) ∙ p.1, p.2 ∙ sym (m.mem (x.snapshot + 2) le))
left_frame t u h k x false m p = let le = p.0 in let top = m.top in (omega arith, p.1)

pub each_frame : (t u : ℕ) (h k : History) (xs : List Record) → Moves t h k → AllByRecursion (RecordOk h u) xs → AllByRecursion (RecordOk k u) xs
each_frame t u h k [] m all = all
each_frame t u h k (x ∷ xs) m all = (
  record {
    even = all.0.even;
    found = all.0.found ∙ sym (m.mem x.snapshot (snapshot_le h u x x.took_lock all.0.left));
    left = left_frame t u h k x x.took_lock m all.0.left;
  },
  each_frame t u h k xs m all.1,
)

pub ordered_up : (s : ℕ) (xs : List Record) (d e : ℕ) → d ≤ e → Ordered s xs d → Ordered s xs e
ordered_up s [] d e le o = omega arith
ordered_up s (x ∷ xs) d e le o = (o.0, ordered_up (next_snapshot x.snapshot x.took_lock) xs d e le o.1)

module _ {C : Type 0} (code : C → Effect C) where
  holds_frame : (t u : ℕ) (h k : History) (a : Attempt C) (b : Bool) → u ≢ t → Moves t h k → LockBy h u a b → LockBy k u a b
  holds_frame t u h k a true ne m p =
      let q = m.holds u ne p.0 in
      (q.0, p.1 ∙ sym q.1, q.2 ∙ p.2)
  holds_frame t u h k a false ne m p = λ e. p (m.held u ne e)

  in_hand_frame : (t : ℕ) (h k : History) (a : Attempt C) (c : C) (p : Phase) → h.top % 2 ≡ 0 → LockIs h h.holder → a.snapshot % 2 ≡ 0 → a.snapshot ≤ h.top → Moves t h k → InHand code h a c p → InHand code k a c p
  in_hand_frame t h k a c AtOperation even l es le m i = tt
  in_hand_frame t h k a c (ReadsLock v) even l es le m i = (
    i.0,
    i.1,
    i.2,
    i.3,
    i.4,
    λ e.
        let b = lock_bounds h h.holder l in
        let up = m.lock in
        ap (λ n. get_or n i.0 0) (m.mem a.snapshot le) ∙ i.5 (omega arith),
  )
  in_hand_frame t h k a c ValidatesTime even l es le m i = i
  in_hand_frame t h k a c (ValidatesEntry time n) even l es le m i =
      let ev = i.1 in
      let lo = i.2 in
      let hi = i.3 in
      let up = m.lock in (
        i.0,
        ev,
        lo,
        omega arith,
        λ e.
            let same : h.lock ≡ time = omega arith in
            let top : h.lock ≡ h.top = even_lock h h.holder even l (rw same ev) in
            subst (λ n'. AgreesBelow n n' a.reads) (sym (m.mem time (omega arith))) (i.4 same),
        i.5,
      )
  in_hand_frame t h k a c (Stores n) even l es le m i = i

  pub begun_frame : (bounds : List ℕ) (t : ℕ) (h k : History) (c0 : C) (xs : List Record) (c : C) (a : Attempt C) (text : List ℕ) → a.snapshot ≤ h.top → Moves t h k → Begun code bounds h c0 xs c a text → Begun code bounds k c0 xs c a text
  begun_frame bounds t h k c0 xs c a text le m b = record {
    c1 = b.c1;
    text1 = b.text1;
    begins = b.begins;
    comes_to = b.comes_to;
    same_text = b.same_text;
    reaches = subst (λ n. Reaches code bounds n b.c1 b.text1 c a text) (sym (m.mem a.snapshot le)) b.reaches;
  }

  now_frame : (bounds : List ℕ) (t u : ℕ) (h k : History) (c0 : C) (xs : List Record) (base : List ℕ) (th : Thread C) (o : Option (Attempt C)) → h.top % 2 ≡ 0 → LockIs h h.holder → u ≢ t → Moves t h k → Now code bounds h u c0 xs base th o → Now code bounds k u c0 xs base th o
  now_frame bounds t u h k c0 xs base th None even l ne m n = (n.0, λ e. n.1 (m.held u ne e))
  now_frame bounds t u h k c0 xs base th (Some a) even l ne m n =
      let up = m.top in
      let le = n.steady.in_time in
      record {
        steady = record {
          running = n.steady.running;
          even = n.steady.even;
          since = n.steady.since;
          in_time = omega arith;
          based = n.steady.based ∙ sym (m.mem a.snapshot le);
          agrees = subst (λ w. Agrees w a.reads) (sym (m.mem a.snapshot le)) n.steady.agrees;
          log = n.steady.log;
          marks = n.steady.marks;
        };
        begun = begun_frame bounds t h k c0 xs th.configuration a th.text le m n.begun;
        holds = holds_frame t u h k a (has_lock a.kept a.phase) ne m n.holds;
        in_hand = in_hand_frame t h k a th.configuration a.phase even l n.steady.even le m n.in_hand;
      }

  floor_up : (t : ℕ) (h k : History) (o : Option (Attempt C)) → Moves t h k → bound_of h o ≤ bound_of k o
  floor_up t h k None m = m.top
  floor_up t h k (Some a) m = omega arith

  complete_frame : (t u : ℕ) (h k : History) (xs : List Record) → u ≢ t → Moves t h k → ((s : ℕ) → s % 2 ≡ 0 → s < h.top → h.owner s ≡ u → HasTaker s xs) → (s : ℕ) → s % 2 ≡ 0 → s < k.top → k.owner s ≡ u → HasTaker s xs
  complete_frame t u h k xs ne m all s even lt o = at (below s h.top)
    where
      below : (a b : ℕ) → (a < b) ⊎ (b ≤ a)
      below a b = grind arith

      at : (s < h.top) ⊎ (h.top ≤ s) → HasTaker s xs
      at (inl l) = all s even l (sym (m.owner s l) ∙ o)
      at (inr g) = absurd (ne (sym o ∙ m.new s even g lt))

  -- the part of a thread that does not move
  pub frame : (bounds : List ℕ) (t u : ℕ) (h k : History) (c0 : C) (p : Part C) → h.top % 2 ≡ 0 → LockIs h h.holder → u ≢ t → Moves t h k → PartOk code bounds h u c0 p → PartOk code bounds k u c0 p
  frame bounds t u h k c0 p even l ne m ok = record {
    each = each_frame t u h k p.records m ok.each;
    ordered = ordered_up 0 p.records _ _ (floor_up t h k p.thread.attempt m) ok.ordered;
    complete = complete_frame t u h k p.records ne m ok.complete;
    now = now_frame bounds t u h k c0 p.records p.base p.thread p.thread.attempt even l ne m ok.now;
  }
