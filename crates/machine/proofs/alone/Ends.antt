-- In a reached world with a free lock a thread that has an attempt open, alone, drops it once or goes on as its meaning
-- does.
use Rattle.std.proofs.Common.{◌≡◌, ◌+◌, ◌%◌, ◌==◌, ◌⊎◌, inl, inr, ℕ, Bool, true, false, List, [], ◌∷◌, ◌++◌, Option, None, Some, cond, set, refl, sym, ◌∙◌, ap, subst, length, slice_get, slice_index, arith}
use Rattle.std.specs.List.{AllByRecursion}
use Rattle.std.proofs.lemmas.Bool.{eqb-true}
use Rattle.syntax.specs.Behaviours.{IsMemory}
use Rattle.write_log.specs.Overlay.{IsDistinct, Lacks, overlay}
use Rattle.write_log.proofs.Overlay.{overlay-other}
use Rattle.bytecode.specs.Effects.{Effect, FitsCells}
use Rattle.bytecode.specs.Effects.Effect.{Commit, Irrevocable, Read}
use Rattle.bytecode.specs.Sequential.{Sequential, inside_step, next, steps}
use Rattle.norec_core.specs.Attempts.{Attempt, Checkpoint}
use Rattle.norec_core.specs.declared.step.Op.{Op}
use Rattle.norec_core.specs.declared.step.Op.TheVariants as op
use Rattle.norec_core.specs.declared.step.Phase.{Phase}
use Rattle.norec_core.specs.declared.step.Phase.TheVariants.{AtOperation, ReadsLock, Stores, ValidatesEntry, ValidatesTime}
use Rattle.machine.specs.Explained.{has_lock}
use Rattle.machine.specs.Solo.{AttemptEnds, EndsAs, GoesOnAsMeant, DropsOnce, StaysInside, meaning_within}
use Rattle.machine.specs.Threads.{op_of}
use Rattle.machine.specs.Worlds.{World, Part, new_world}
use Rattle.machine.specs.inner.Invariant.{AttemptOk, History, InHand, Invariant, IsLog, LockBy, LockIs, Now, Validates, inside, inside_of}
use Rattle.machine.proofs.alone.Alone.{Reach, ReachInside, Solo, at_attempt, in_solo, lock_for, once_inside}
use Rattle.machine.proofs.alone.Behind as behind
use Rattle.machine.proofs.alone.Beside.{comes_beside, goes_as, solo_of}
use Rattle.machine.proofs.alone.Calm.{Calm, all_calm}
use Rattle.machine.proofs.alone.Transaction.{left_did}
use Rattle.machine.proofs.alone.Unstopped.{reached_steps}
use Rattle.machine.proofs.parts.Memories.{sized}
use Rattle.machine.proofs.runs.InTime.{all_map}
use Rattle.machine.proofs.runs.Serializable.{new_invariant, start_of}
use Rattle.machine.proofs.steps.Worlds.{run_invariant}

-- nobody has an even lock
free : {C : Type 0} (h : History) (t : ℕ) (a : Attempt C) (b : Bool) → h.top % 2 ≡ 0 → LockIs h h.holder → h.lock % 2 ≡ 0 → LockBy h t a b → b ≡ false
free h t a false even is free_now by = refl
free h t a true even is free_now by = let held : h.lock ≡ h.top + 1 = subst (LockIs h) by.0 is in absurd (omega (arith, held, even, free_now))

not_kept : (b : Bool) (q : Phase) → has_lock b q ≡ false → b ≡ false
not_kept false q e = refl
not_kept true q e = absurd (cc)

-- a lock that nobody has is the last commit's, and nothing of a commit is stored
nothing_stored : (h : History) (o : Option ℕ) → LockIs h o → h.top % 2 ≡ 0 → h.lock % 2 ≡ 0 → (h.lock ≡ h.top) × (h.stored ≡ [])
nothing_stored h None is even free_now = is
nothing_stored h (Some u) is even free_now = absurd (omega (arith, is, even, free_now))

validates_op : {C : Type 0} (x : Effect C) → Validates x → (o : Op) × (op_of x false false ≡ Some o)
validates_op (Read cell k) v = (op.Read cell, refl)
validates_op (Commit c) v = (op.Commit, refl)
validates_op (Irrevocable c) v = (op.Irrevocable, refl)
validates_op x v = absurd v

lock_for_is : (s : ℕ) (b : Bool) → lock_for s b ≡ cond b (s + 1) s
lock_for_is s true = refl
lock_for_is s false = refl

-- whatever phase its attempt is in
module _ {C : Type 0} (code : C → Effect C) (bounds : List ℕ) (fits : FitsCells code bounds) (lock : ℕ) (words : List ℕ) (even : lock % 2 ≡ 0) (size : length words ≡ length bounds) (saved : C) (first : ℕ) (text : List ℕ)
    (snapshot : ℕ) (reads writes : List (ℕ × ℕ)) (inner : List (Checkpoint C)) (c : C) (distinct : IsDistinct writes) (marks : AllByRecursion (λ (k : Checkpoint C). IsDistinct k.writes) inner) (n : ℕ) where
  abbrev here : Phase → Solo C
  here q = in_solo lock words c text (at_attempt saved first snapshot reads writes inner false q)

  abbrev meant : Sequential C
  meant = inside c (inside_of code words saved writes inner false) [] [] text

  abbrev Ends : Phase → Type 0
  Ends q = behind.Ends code bounds fits lock words even size saved first text n meant (here q)

  validating : Validates (code c) → Ends ValidatesTime
  validating v = let o = validates_op (code c) v in behind.validates code bounds fits lock words even size saved first text snapshot reads writes inner c (code c) o.0 refl o.1 distinct marks n

  -- a word in hand is the cell's where the lock is the snapshot
  reading : (v cell : ℕ) (k : ℕ → C) → code c ≡ Read cell k → Lacks cell writes → (lock ≡ snapshot → slice_index words cell ≡ v) → (b : Bool) → (lock == snapshot) ≡ b → Ends (ReadsLock v)
  reading v cell k ex lacks right true eb =
      behind.ahead_ends code bounds fits lock words even size saved first text n meant (here (ReadsLock v)) read (once_inside code _ read (Read cell k) ex (rw eb refl) tt)
      (behind.later code bounds fits lock words even size saved first text n n meant does read (omega arith) does_is
      (subst (λ s. behind.Ends code bounds fits lock words even size saved first text n does (in_solo lock words (k v) text (at_attempt saved first s (reads ++ (cell, v) ∷ []) writes inner false AtOperation))) (eqb-true lock snapshot eb)
      (behind.from_lock code bounds fits lock words even size saved first text n (reads ++ (cell, v) ∷ []) writes inner (k v) distinct marks)))
    where
      read : Solo C
      read = in_solo lock words (k v) text (at_attempt saved first snapshot (reads ++ (cell, v) ∷ []) writes inner false AtOperation)

      does : Sequential C
      does = inside (k v) (inside_of code words saved writes inner false) [] [] text

      does_is : next code meant ≡ does
      does_is = ap (inside_step meant (inside_of code words saved writes inner false)) ex
          ∙ ap (λ u. inside (k u) (inside_of code words saved writes inner false) [] [] text) (overlay-other words cell writes lacks ∙ right (eqb-true lock snapshot eb))
  reading v cell k ex lacks right false eb =
      behind.ahead_ends code bounds fits lock words even size saved first text n meant (here (ReadsLock v)) (here ValidatesTime) (once_inside code _ _ (Read cell k) ex (rw eb refl) tt)
      (validating (subst Validates (sym ex) tt))

  at_operation : (b : Bool) → (lock == snapshot) ≡ b → Ends AtOperation
  at_operation true eb =
      subst (λ s. behind.Ends code bounds fits lock words even size saved first text n meant (in_solo lock words c text (at_attempt saved first s reads writes inner false AtOperation))) (eqb-true lock snapshot eb)
      (behind.from_lock code bounds fits lock words even size saved first text n reads writes inner c distinct marks)
  at_operation false eb = behind.from_below code bounds fits lock words even size saved first text snapshot reads eb n c writes inner distinct marks

  from_phase : (h : History) (a : Attempt C) (q : Phase) → has_lock false q ≡ false → (lock ≡ h.lock) → a.snapshot ≡ snapshot → a.writes ≡ writes → (h.lock ≡ snapshot → h.mem snapshot ≡ words) → InHand code h a c q → Ends q
  from_phase h a AtOperation free_now is es ew mem in_hand = at_operation (lock == snapshot) refl
  from_phase h a (ReadsLock v) free_now is es ew mem in_hand =
      reading v in_hand.0 in_hand.1 in_hand.2 (subst (Lacks in_hand.0) ew in_hand.3)
      (λ e. sym (ap (λ m. slice_index m in_hand.0) (mem (sym is ∙ e))) ∙ ap (λ s. slice_index (h.mem s) in_hand.0) (sym es) ∙ in_hand.5 (sym is ∙ e ∙ sym es)) (lock == snapshot) refl
  from_phase h a ValidatesTime free_now is es ew mem in_hand = validating in_hand.1
  from_phase h a (ValidatesEntry time i) free_now is es ew mem in_hand =
      let o = validates_op (code c) in_hand.5 in behind.validates_entry code bounds fits lock words even size saved first text snapshot reads writes inner c (code c) o.0 refl o.1 distinct marks n time i
  from_phase h a (Stores i) free_now is es ew mem in_hand = absurd (cc)

module _ {C : Type 0} (code : C → Effect C) (init : ℕ → C) (bounds : List ℕ) (m0 : List ℕ) (is_memory : IsMemory bounds m0) (fits : FitsCells code bounds) where
  module _ (w : World C) (t : ℕ) (p : Part C) (a : Attempt C) (n : ℕ) (even : w.lock % 2 ≡ 0) (size : length w.words ≡ length bounds) (here_is : slice_get w.parts t ≡ Some p) (is : p.thread.attempt ≡ Some a) where
    abbrev ThreadEnds : Sequential C → Solo C → Type 0
    ThreadEnds r s = behind.Ends code bounds fits w.lock w.words even size a.saved a.first p.thread.text n r s

    -- what the thread comes to is what its part comes to in the world
    dropped_in_world : ReachInside code (solo_of code w p) (behind.dropped code bounds fits w.lock w.words even size a.saved a.first p.thread.text) → DropsOnce code w t p a
    dropped_in_world d =
        let end : Solo C = behind.dropped code bounds fits w.lock w.words even size a.saved a.first p.thread.text in
        let c = comes_beside code w t p d.0 end here_is d.1 in
        record {
          steps = d.0;
          part = record { thread = end.thread; base = c.base; records = c.records };
          world = c.world;
          thread = refl;
          once = c.dropped;
        }

    open_in_world : (r : Sequential C) (q : Solo C) → Reach code (solo_of code w p) q → behind.Open code bounds fits w.lock w.words even size r q → StaysInside code w t r
    open_in_world r q g o =
        let end : Solo C = in_solo (lock_for w.lock o.attempt.kept) w.words o.c o.text o.attempt in
        let c = comes_beside code w t p g.0 end here_is (g.1 ∙ o.machine) in
        record {
          steps = g.0;
          part = record { thread = end.thread; base = c.base; records = c.records };
          attempt = o.attempt;
          world = c.world ∙ ap (λ l. record { lock = l; words = w.words; parts = set w.parts t (record { thread = end.thread; base = c.base; records = c.records }) }) (lock_for_is w.lock o.attempt.kept);
          in_attempt = refl;
          configuration = sym (ap (λ (x : Sequential C). x.configuration) o.meaning);
          text = sym (ap (λ (x : Sequential C). x.text) o.meaning);
          inside = ap (λ (x : Sequential C). x.inside) o.meaning;
          undropped = c.dropped;
        }

    comes_in_world : (r : Sequential C) → behind.Keeps code bounds fits w.lock w.words even size r (solo_of code w p) → StaysInside code w t r ⊎ EndsAs code w t r
    comes_in_world r (inl o) = inl (open_in_world r o.0 o.1 o.2)
    comes_in_world r (inr l) = inr (record {
      over = ap (λ (x : Sequential C). x.inside) l.there.meaning;
      goes = goes_as code bounds fits w t p r here_is (left_did code bounds fits w.lock w.words r (solo_of code w p) l);
    })

    in_world : (r : Sequential C) → ((m : ℕ) → steps code m r ≡ meaning_within code w p a m) → ThreadEnds r (solo_of code w p) → DropsOnce code w t p a ⊎ GoesOnAsMeant code w t p a n
    in_world r same (inl d) = inl (dropped_in_world d)
    in_world r same (inr g) = inr (record { instructions = g.0; enough = g.1; comes = comes_in_world (meaning_within code w p a g.0) (subst (λ x. behind.Keeps code bounds fits w.lock w.words even size x (solo_of code w p)) (same g.0) g.2) })

    module _ (h : History) (v : Invariant code bounds init m0 h w) (calm : Calm p.thread.attempt p.thread.trapping) where
      ok : AttemptOk code bounds h t (init t) p.records p.base p.thread.configuration a p.thread.text p.thread.status
      ok = subst (λ o. Now code bounds h t (init t) p.records p.base p.thread o) is (let q = v.parts t p here_is in q.now)

      even_now : h.lock % 2 ≡ 0
      even_now = sym (ap (λ l. l % 2) v.lock) ∙ even

      lockless : has_lock a.kept a.phase ≡ false
      lockless = free h t a (has_lock a.kept a.phase) v.history.even v.history.lock even_now ok.holds

      unkept : a.kept ≡ false
      unkept = not_kept a.kept a.phase lockless

      untrapped : p.thread.trapping ≡ false
      untrapped = subst (λ o. Calm o p.thread.trapping) is calm unkept

      plain : Some a ≡ Some (at_attempt a.saved a.first a.snapshot a.reads a.writes a.inner false a.phase)
      plain = λ i. Some (record { saved = a.saved; first = a.first; snapshot = a.snapshot; reads = a.reads; writes = a.writes; inner = a.inner; kept = unkept i; phase = a.phase })

      alone_is : solo_of code w p ≡ in_solo w.lock w.words p.thread.configuration p.thread.text (at_attempt a.saved a.first a.snapshot a.reads a.writes a.inner false a.phase)
      alone_is = λ i. record {
        lock = w.lock;
        words = w.words;
        thread = record { configuration = p.thread.configuration; attempt = (is ∙ plain) i; trapping = untrapped i; text = p.thread.text; status = ok.steady.running i };
        drops = 0;
      }

      now_words : h.lock ≡ a.snapshot → h.mem a.snapshot ≡ w.words
      now_words e =
          let f = nothing_stored h h.holder v.history.lock v.history.even even_now in
          ap h.mem (sym e ∙ f.0) ∙ sym (v.history.contents ∙ ap (overlay (h.mem h.top)) f.1)

      ends : DropsOnce code w t p a ⊎ GoesOnAsMeant code w t p a n
      ends = in_world (inside p.thread.configuration (inside_of code w.words a.saved a.writes a.inner false) [] [] p.thread.text)
          (λ m i. steps code m (inside p.thread.configuration (inside_of code w.words a.saved a.writes a.inner (sym unkept i)) [] [] p.thread.text))
          (subst (ThreadEnds (inside p.thread.configuration (inside_of code w.words a.saved a.writes a.inner false) [] [] p.thread.text)) (sym alone_is)
          (from_phase code bounds fits w.lock w.words even size a.saved a.first p.thread.text a.snapshot a.reads a.writes a.inner p.thread.configuration ok.steady.log.0
          (all_map (λ (k : Checkpoint C). IsLog bounds k.writes) (λ (k : Checkpoint C). IsDistinct k.writes) a.inner (λ k l. l.0) ok.steady.marks)
          n h a a.phase (subst (λ b. has_lock b a.phase ≡ false) unkept lockless) v.lock refl refl now_words ok.in_hand))

  pub attempt_ends : AttemptEnds code init m0
  attempt_ends threads w t p a n r even here is =
      let from = reached_steps code init m0 threads w r in
      let now = run_invariant code bounds init m0 fits from.0 (new_world init m0 threads) (start_of m0) (new_invariant code init bounds m0 is_memory threads) in
      let calm = all_calm code init m0 threads w r in
      let v = subst (λ x. (h : History) × Invariant code bounds init m0 h x) (sym from.1) now in
      ends w t p a n even (calm.words ∙ sized bounds m0 is_memory) here is v.0 v.1 (calm.each t p here)
