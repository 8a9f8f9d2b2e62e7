-- By the invariant each merge is a run in which every thread stands.
use Rattle.std.proofs.Common.{◌≡◌, ◌<◌, ◌≤◌, ◌+◌, ◌*◌, ◌%◌, ◌⊎◌, inl, inr, ℕ, zero, suc, Bool, true, false, cond, List, [], ◌∷◌, ◌++◌, Option, None, Some, refl, sym, ◌∙◌, ap, subst, length, slice_get, append-nil, zero-add, arith}
use Rattle.std.specs.List.{AllByRecursion}
use Rattle.syntax.specs.declared.thread_end.Status.{Status}
use Rattle.syntax.specs.Behaviours.{IsMemory, IsRun, Matches, Stands, founds_of, last_memory, lefts_of}
use Rattle.syntax.specs.declared.thread_end.Status.TheVariants.{Running, Ended as HasEnded, Trapped as HasTrapped}
use Rattle.write_log.specs.Overlay.{overlay}
use Rattle.read_log.specs.Agreement.{Agrees}
use Rattle.bytecode.specs.Effects.{Effect}
use Rattle.bytecode.specs.Sequential.{Sequential, end_of, meaning, outside, outside_step, steps, thread}
use Rattle.norec_core.specs.Attempts.{Attempt}
use Rattle.machine.specs.Computes.{ComputesOn, HasComputed}
use Rattle.machine.specs.Explained.{HasLock, HasMomentIf, IsExplainedBy, IsFree, IsHeld, IsNumbered, has_lock, stored_of}
use Rattle.machine.specs.inner.Invariant.{ComesTo, HasTaker, History, Invariant, LeftIs, LockBy, LockIs, Now, Ordered, PartOk, RecordOk, bound_of, founds_in, inside, inside_of, lefts_in, next_snapshot}
use Rattle.machine.specs.Merges.{Entry, IsMerge, count_takers, own, run_of}
use Rattle.machine.specs.Threads.{after}
use Rattle.machine.specs.Worlds.{Part, Record, World, run}
use Rattle.machine.proofs.merges.Follow.{Cut, all_left, all_right, chained, counted, cut, ended_by, founds_are, last_is, lefts_are, memories_are, none_later, own-append, threads_below}
use Rattle.machine.proofs.parts.Meaning.{steps-add, steps-last}
use Rattle.machine.proofs.parts.Memories.{memory-overlay, sized}
use Rattle.machine.proofs.merges.Merge.{EntryOk, Follows, Has, Rising, all_own, follows, has_own, rising}

pub part_at : {X : Type 0} (xs : List X) (t : ℕ) → t < length xs → (x : X) × (slice_get xs t ≡ Some x)
part_at [] t lt = absurd (omega arith)
part_at (x ∷ xs) zero lt = (x, refl)
part_at (x ∷ xs) (suc t) lt = part_at xs t (omega arith)

all_low : (es : List Entry) → AllByRecursion (λ (e : Entry). 0 ≤ e.item.snapshot) es
all_low [] = tt
all_low (e ∷ es) = (omega arith, all_low es)

same_end : (s : Status) → Matches s [] (end_of false s)
same_end Running = inl refl
same_end HasEnded = (refl, refl)
same_end (HasTrapped cause) = (refl, refl)

-- a record that did not take the lock leaves what it found
idle_left : (h : History) (t : ℕ) (x : Record) (b : Bool) → b ≡ false → LeftIs h t x b → x.left ≡ x.found
idle_left h t x true e k = absurd (cc)
idle_left h t x false e k = k.1

numbers : (h : History) (s : ℕ) (es : List Entry) (e : ℕ) → Follows s es e → AllByRecursion (EntryOk h) es → (before : List Entry) (x : Entry) (after : List Entry) → es ≡ before ++ x ∷ after → (x.item.snapshot ≡ s + 2 * count_takers before) × (x.item.took_lock ≡ false → x.item.left ≡ x.item.found)
numbers h s [] e f ok [] x after p = absurd (cc)
numbers h s [] e f ok (b ∷ bs) x after p = absurd (cc)
numbers h s (y ∷ ys) e f ok [] x after p =
    let is : y ≡ x = cc in
    let snapshot : x.item.snapshot ≡ s = ap (λ (z : Entry). z.item.snapshot) (sym is) ∙ f.0 in
    (omega arith, subst (λ (z : Entry). z.item.took_lock ≡ false → z.item.left ≡ z.item.found) is (λ m. idle_left h y.thread y.item y.item.took_lock m ok.0.left))
numbers h s (y ∷ ys) e f ok (b ∷ bs) x after p =
    let is : y ≡ b = cc in
    let rest : ys ≡ bs ++ x ∷ after = cc in
    let r = numbers h (next_snapshot s y.item.took_lock) ys e f.1 ok.1 bs x after rest in
    (r.0 ∙ at y.item.took_lock ∙ ap (λ (z : Entry). s + 2 * cond z.item.took_lock (suc (count_takers bs)) (count_takers bs)) is, r.1)
  where
    at : (m : Bool) → next_snapshot s m + 2 * count_takers bs ≡ s + 2 * cond m (suc (count_takers bs)) (count_takers bs)
    at true = omega arith
    at false = omega arith

module _ {C : Type 0} (code : C → Effect C) (init : ℕ → C) (bounds : List ℕ) (m0 : List ℕ) (w : World C) (h : History) (v : Invariant code bounds init m0 h w) (es : List Entry) (merge : IsMerge w.parts es) where
  -- a thread's own entries
  own_part : (t : ℕ) → t < length w.parts → (p : Part C) × (slice_get w.parts t ≡ Some p) × (own t es ≡ p.records) × PartOk code bounds h t (init t) p
  own_part t lt = let g = part_at w.parts t lt in (g.0, g.1, merge.own_records t g.0 g.1, v.parts t g.0 g.1)

  pub each_ok : AllByRecursion (EntryOk h) es
  each_ok = all_own (RecordOk h) (length w.parts) es (λ t lt. let o = own_part t lt in subst (AllByRecursion (RecordOk h t)) (sym o.2) o.3.each) merge.below

  ups : (t : ℕ) → t < length w.parts → Rising (own t es)
  ups t lt = let o = own_part t lt in subst Rising (sym o.2) (rising 0 o.0.records _ o.3.ordered)

  all_takers : (r : ℕ) → r % 2 ≡ 0 → 0 ≤ r → r < h.top → Has r es
  all_takers r even ge lt =
      let o = own_part (h.owner r) (v.owners r even lt) in
      has_own r (h.owner r) es (subst (HasTaker r) (sym o.2) (o.3.complete r even lt refl))

  pub whole : Follows 0 es h.top
  whole = follows h (length w.parts) 0 0 es v.history.even refl (omega arith) each_ok merge.sorted (all_low es) merge.below ups all_takers

  last_mem : last_memory m0 (run_of es) ≡ h.mem h.top
  last_mem = last_is h 0 m0 es h.top (sym v.first) whole each_ok

  founds_own : (t : ℕ) (p : Part C) → slice_get w.parts t ≡ Some p → founds_of t (run_of es) ≡ founds_in p.records
  founds_own t p e = founds_are t es ∙ ap founds_in (merge.own_records t p e)

  lefts_own : (t : ℕ) (p : Part C) → slice_get w.parts t ≡ Some p → lefts_of t (run_of es) ≡ lefts_in p.records
  lefts_own t p e = lefts_are t es ∙ ap lefts_in (merge.own_records t p e)

  -- the thread's meaning, when it was last outside transactions
  stood : (t : ℕ) (p : Part C) (o : Option (Attempt C)) → Now code bounds h t (init t) p.records p.base p.thread o → (c : C) × (text : List ℕ) × (status : Status) × ComesTo code (init t) p.records c text status
  stood t p None n = (p.thread.configuration, p.thread.text, p.thread.status, n.0)
  stood t p (Some a) n = (a.saved, n.begun.text1, Running, n.begun.comes_to)

  is_run : IsRun (meaning code init) (length w.parts) m0 (run_of es)
  is_run = record {
    named = threads_below (length w.parts) es merge.below;
    chained = chained h 0 m0 es h.top (sym v.first) whole each_ok;
    each = λ t lt.
        let o = own_part t lt in
        let b = stood t o.0 o.0.thread.attempt o.3.now in (
          b.3.0,
          ap (λ fs. (thread code (init t) fs b.3.0).lefts) (founds_own t o.0 o.1 ∙ sym (append-nil (founds_in o.0.records)))
              ∙ ap (λ (r : Sequential C). r.lefts) (b.3.1 [])
              ∙ sym (lefts_own t o.0 o.1),
        );
  }

  -- a state of the meaning in which the thread stands
  stands_by : (t : ℕ) (p : Part C) (n : ℕ) (extra : List (List ℕ)) (r : Sequential C) → slice_get w.parts t ≡ Some p → (extra ≡ []) ⊎ (extra ≡ last_memory m0 (run_of es) ∷ []) → thread code (init t) (founds_in p.records ++ extra) n ≡ r → r.lefts ≡ lefts_in p.records → r.text ≡ p.thread.text → Matches p.thread.status extra (end_of r.wants r.status) → Stands (meaning code init) m0 (run_of es) t p.thread.text p.thread.status
  stands_by t p n extra r e one run ls text end =
      let same : thread code (init t) (founds_of t (run_of es) ++ extra) n ≡ r = ap (λ fs. thread code (init t) (fs ++ extra) n) (founds_own t p e) ∙ run in
      record {
        ticks = n;
        extra = extra;
        at_most_last = one;
        lefts = ap (λ (x : Sequential C). x.lefts) same ∙ ls ∙ sym (lefts_own t p e);
        text = ap (λ (x : Sequential C). x.text) same ∙ text;
        end = subst (λ (x : Sequential C). Matches p.thread.status extra (end_of x.wants x.status)) (sym same) end;
      }

  standing_of : (t : ℕ) (p : Part C) → slice_get w.parts t ≡ Some p → (o : Option (Attempt C)) → Now code bounds h t (init t) p.records p.base p.thread o → Stands (meaning code init) m0 (run_of es) t p.thread.text p.thread.status
  standing_of t p e None n = stands_by t p n.0.0 [] _ e (inl refl) (n.0.1 []) refl refl (same_end p.thread.status)
  standing_of t p e (Some a) n = at a.kept refl
    where
      at : (b : Bool) → a.kept ≡ b → Stands (meaning code init) m0 (run_of es) t p.thread.text p.thread.status
      at false k = stands_by t p n.begun.comes_to.0 [] _ e (inl refl) (n.begun.comes_to.1 []) refl (n.begun.same_text k) (rw n.steady.running (inl refl))
      at true k =
          let m : List ℕ = h.mem a.snapshot in
          let top : a.snapshot ≡ h.top = kept_top a.kept k n.holds in
          stands_by t p ((n.begun.comes_to.0 + 1) + n.begun.reaches.0) (m ∷ []) _ e (inr (ap (λ x. x ∷ []) (ap h.mem top ∙ sym last_mem)))
          (steps-add code (n.begun.comes_to.0 + 1) n.begun.reaches.0 _
          ∙ ap (steps code n.begun.reaches.0)
          (steps-last code n.begun.comes_to.0 _ _ (n.begun.comes_to.1 (m ∷ []))
          ∙ ap (outside_step (outside a.saved (m ∷ []) (lefts_in p.records) n.begun.text1 Running)) n.begun.begins)
          ∙ n.begun.reaches.1 m [] (lefts_in p.records) (sized bounds (h.mem a.snapshot) (v.history.memories a.snapshot n.steady.in_time)) (record { agrees = n.steady.agrees; known = λ x. refl }))
          refl refl (rw n.steady.running (inl refl))
        where
          kept_top : (b : Bool) → b ≡ true → LockBy h t a (has_lock b a.phase) → a.snapshot ≡ h.top
          kept_top true k' hold = hold.1
          kept_top false k' hold = absurd (cc)

  moment_of : (t : ℕ) (p : Part C) → slice_get w.parts t ≡ Some p → (o : Option (Attempt C)) → Ordered 0 p.records (bound_of h o) → Now code bounds h t (init t) p.records p.base p.thread o → HasMomentIf m0 t o es
  moment_of t p e None ord n = tt
  moment_of t p e (Some a) ord n =
      let c : Cut 0 a.snapshot es = cut 0 a.snapshot 0 es h.top refl n.steady.even (omega arith) n.steady.in_time merge.sorted whole in
      let ended = subst (AllByRecursion (λ (x : Record). next_snapshot x.snapshot x.took_lock ≤ a.snapshot)) (sym (merge.own_records t p e) ∙ ap (own t) c.place ∙ own-append t c.before c.after) (ended_by 0 p.records a.snapshot ord) in (
        n.steady.since,
        record {
          before = c.before;
          after = c.after;
          place = c.place;
          number = counted 0 c.before a.snapshot c.follows ∙ zero-add (2 * count_takers c.before);
          no_later = none_later t a.snapshot (2 * a.snapshot + 1) c.after (omega arith) c.later (all_right (λ (x : Record). next_snapshot x.snapshot x.took_lock ≤ a.snapshot) (own t c.before) (own t c.after) ended);
          agrees = subst (λ m. Agrees m a.reads) (sym (last_is h 0 m0 c.before a.snapshot (sym v.first) c.follows (all_left (EntryOk h) c.before c.after (subst (AllByRecursion (EntryOk h)) c.place each_ok)))) n.steady.agrees;
        },
      )

  count : h.top ≡ 2 * count_takers es
  count = counted 0 es h.top whole ∙ zero-add (2 * count_takers es)

  numbered : IsNumbered es
  numbered before x after p =
      let r = numbers h 0 es h.top whole each_ok before x after p in
      (r.0 ∙ zero-add (2 * count_takers before), r.1)

  pub lock_of : (t : ℕ) (p : Part C) (a : Attempt C) → slice_get w.parts t ≡ Some p → HasLock p a → (h.holder ≡ Some t) × (a.snapshot ≡ h.top) × (h.stored ≡ stored_of a.writes a.phase)
  lock_of t p a e has = at p.thread.attempt has.0 (v.parts t p e).now
    where
      holds : (b : Bool) → b ≡ true → LockBy h t a b → (h.holder ≡ Some t) × (a.snapshot ≡ h.top) × (h.stored ≡ stored_of a.writes a.phase)
      holds true f k = k
      holds false f k = absurd (cc)

      at : (o : Option (Attempt C)) → o ≡ Some a → Now code bounds h t (init t) p.records p.base p.thread o → (h.holder ≡ Some t) × (a.snapshot ≡ h.top) × (h.stored ≡ stored_of a.writes a.phase)
      at None f n = absurd (cc)
      at (Some b) f n =
          let same : b ≡ a = cc in
          holds (has_lock a.kept a.phase) has.1 (subst (λ (c : Attempt C). LockBy h t c (has_lock c.kept c.phase)) same n.holds)

  pub holder_has : (t : ℕ) (p : Part C) → slice_get w.parts t ≡ Some p → h.holder ≡ Some t → (a : Attempt C) × HasLock p a
  holder_has t p e is = at p.thread.attempt refl (v.parts t p e).now
    where
      lock_by : (a : Attempt C) (b : Bool) → has_lock a.kept a.phase ≡ b → LockBy h t a b → has_lock a.kept a.phase ≡ true
      lock_by a true f k = f
      lock_by a false f k = absurd (k is)

      at : (o : Option (Attempt C)) → p.thread.attempt ≡ o → Now code bounds h t (init t) p.records p.base p.thread o → (a : Attempt C) × HasLock p a
      at None f n = absurd (n.1 is)
      at (Some a) f n = (a, (f, lock_by a (has_lock a.kept a.phase) refl n.holds))

  free_or_held : IsFree m0 w es ⊎ IsHeld m0 w es
  free_or_held = at h.holder refl v.history.lock
    where
      at : (o : Option ℕ) → h.holder ≡ o → LockIs h o → IsFree m0 w es ⊎ IsHeld m0 w es
      at None f l = inl (record {
        lock = v.lock ∙ l.0 ∙ count;
        words = v.history.contents ∙ ap (overlay (h.mem h.top)) l.1 ∙ sym last_mem;
        nobody = λ t p a e has. let r = lock_of t p a e has in absurd (let x = r.0 in cc);
      })
      at (Some t) f l =
          let g = part_at w.parts t (v.holder t f) in
          let b = holder_has t g.0 g.1 f in
          let r = lock_of t g.0 b.0 g.1 b.1 in
          inr (record {
            thread = t;
            part = g.0;
            attempt = b.0;
            here = g.1;
            has = b.1;
            lock = v.lock ∙ l ∙ ap (λ n. n + 1) count;
            words = v.history.contents ∙ ap (overlay (h.mem h.top)) r.2 ∙ ap (λ m. overlay m (stored_of b.0.writes b.0.phase)) (sym last_mem);
            alone = λ u p a e has. let q = lock_of u p a e has in let x = q.0 in cc;
          })

  pub explained : (threads : ℕ) → length w.parts ≡ threads → IsExplainedBy (meaning code init) bounds m0 threads w es
  explained threads same = record {
    count = same;
    is_run = subst (λ n. IsRun (meaning code init) n m0 (run_of es)) same is_run;
    memories = memories_are bounds h es v.history.memories each_ok;
    standing = λ t p e. standing_of t p e p.thread.attempt (v.parts t p e).now;
    held = free_or_held;
    words = subst (IsMemory bounds) (sym v.history.contents) (memory-overlay bounds (h.mem h.top) h.stored (v.history.memories h.top (omega arith)) v.history.stored_words);
    numbered = numbered;
    moments = λ t p e. moment_of t p e p.thread.attempt (v.parts t p e).ordered (v.parts t p e).now;
  }

  -- in the memory of its snapshot the attempt is where the meaning is
  pub computes_of : (t : ℕ) (p : Part C) → slice_get w.parts t ≡ Some p → (a : Attempt C) → Now code bounds h t (init t) p.records p.base p.thread (Some a) → ComputesOn code init es t p a (h.mem a.snapshot)
  computes_of t p e a n =
      let m : List ℕ = h.mem a.snapshot in
      let comes : thread code (init t) (founds_in p.records ++ m ∷ []) ((n.begun.comes_to.0 + 1) + n.begun.reaches.0)
      ≡ inside p.thread.configuration (inside_of code m a.saved a.writes a.inner a.kept) [] (lefts_in p.records) p.thread.text =
      steps-add code (n.begun.comes_to.0 + 1) n.begun.reaches.0 _
      ∙ ap (steps code n.begun.reaches.0)
      (steps-last code n.begun.comes_to.0 _ _ (n.begun.comes_to.1 (m ∷ []))
      ∙ ap (outside_step (outside a.saved (m ∷ []) (lefts_in p.records) n.begun.text1 Running)) n.begun.begins)
      ∙ n.begun.reaches.1 m [] (lefts_in p.records) (sized bounds (h.mem a.snapshot) (v.history.memories a.snapshot n.steady.in_time)) (record { agrees = n.steady.agrees; known = λ x. refl }) in
      record {
        instructions = (n.begun.comes_to.0 + 1) + n.begun.reaches.0;
        meant = inside p.thread.configuration (inside_of code m a.saved a.writes a.inner a.kept) [] (lefts_in p.records) p.thread.text;
        comes = ap (λ fs. thread code (init t) (fs ++ m ∷ []) ((n.begun.comes_to.0 + 1) + n.begun.reaches.0)) (founds_own t p e) ∙ comes;
        configuration = refl;
        text = refl;
        lefts = sym (lefts_own t p e);
        within = inside_of code m a.saved a.writes a.inner a.kept;
        inside = refl;
        found = refl;
        sees = refl;
        kept = refl;
      }

  -- and that memory is the one of its moment
  pub computed : (t : ℕ) (p : Part C) (a : Attempt C) → slice_get w.parts t ≡ Some p → p.thread.attempt ≡ Some a → HasComputed code init m0 es t p a
  unfolding moment_of
  computed t p a e has =
      let n : Now code bounds h t (init t) p.records p.base p.thread (Some a) = subst (λ o. Now code bounds h t (init t) p.records p.base p.thread o) has (v.parts t p e).now in
      let ord : Ordered 0 p.records (bound_of h (Some a)) = subst (λ o. Ordered 0 p.records (bound_of h o)) has (v.parts t p e).ordered in
      let c : Cut 0 a.snapshot es = cut 0 a.snapshot 0 es h.top refl n.steady.even (omega arith) n.steady.in_time merge.sorted whole in
      let there : last_memory m0 (run_of c.before) ≡ h.mem a.snapshot =
      last_is h 0 m0 c.before a.snapshot (sym v.first) c.follows (all_left (EntryOk h) c.before c.after (subst (AllByRecursion (EntryOk h)) c.place each_ok)) in
      record {
        moment = (moment_of t p e (Some a) ord n).1;
        computes = subst (λ m. ComputesOn code init es t p a m) (sym there) (computes_of t p e a n);
      }
