-- Each step of the machine keeps the invariant.
use Rattle.std.proofs.Common.{◌≡◌, ◌≢◌, ℕ, Bool, true, false, cond, List, [], ◌∷◌, ◌+◌, ◌-◌, Option, None, Some, refl, sym, ◌∙◌, ap, subst, slice_get, slice_index, take, drop}
use Rattle.syntax.specs.declared.thread_end.Status.{Status}
use Rattle.syntax.specs.declared.thread_end.Status.TheVariants.{Running, Ended as HasEnded, Trapped as HasTrapped}
use Rattle.syntax.specs.declared.thread_end.Trap.{Trap}
use Rattle.write_log.specs.Overlay.{overlay, overlay_word}
use Rattle.bytecode.specs.Effects.{Effect, FitsCells}
use Rattle.bytecode.specs.Effects.Effect.{Begin, Cancel, CancelOuter, Commit, End, Irrevocable, Print, Pure, Read, Traps, Write}
use Rattle.norec_core.specs.Attempts.{Attempt, Checkpoint}
use Rattle.norec_core.specs.Phases.{CoreStep, commit_access, core_cancel, core_check, core_commit, core_compare, core_operation, core_phase, core_read, core_store, core_swap, core_time, entry_access, off, on, operation_access, phase_access, read_access, store_access}
use Rattle.norec_core.specs.declared.step.Access.{Access}
use Rattle.norec_core.specs.declared.step.Access.TheVariants.{LoadLock, Local, StoreLock, Swap}
use Rattle.norec_core.specs.declared.step.Answer.{Answer}
use Rattle.norec_core.specs.declared.step.Answer.TheVariants.{Done, Value}
use Rattle.norec_core.specs.declared.step.Op.{Op}
use Rattle.norec_core.specs.declared.step.Phase.{Phase}
use Rattle.norec_core.specs.declared.step.Phase.TheVariants.{AtOperation, ReadsLock, Stores, ValidatesEntry, ValidatesTime}
use Rattle.machine.specs.Explained.{has_lock, stored_of}
use Rattle.machine.specs.inner.Invariant.{AttemptOk, ComesTo, History, InHand, IsHistory, StepOk, LockBy, Now, Ordered, PartOk, Validates, bound_of}
use Rattle.machine.specs.Threads.{Next, access, access_of, inside_access, op_of, outside_access, resume_next, step_with, told_inside, told_of, told_outside}
use Rattle.machine.specs.Worlds.{Part, answer, lock_after, part_after, step, words_after}
use Rattle.write_log.proofs.Overlay.{not_written}
use Rattle.read_log.proofs.Logs.{take_whole}
use Rattle.machine.proofs.steps.Loads.{check_step, compare_step, time_step, unmoved_step, word_step}
use Rattle.machine.proofs.steps.Local.{cancel_step, inner_begin_step, inner_cancel_step, inner_commit_step, inner_outer_cancel_step, kept_irrevocable_step, outer_cancel_step, outside_steps, print_step, pure_step, read_only_commit_step, served_step, trap_step, write_step}
use Rattle.machine.proofs.parts.Part.{attempt_part, still}
use Rattle.machine.proofs.steps.Stores.{release_step, store_word_step}
use Rattle.machine.proofs.steps.Swap.{commit_swap_step, irrevocable_step}
use Rattle.norec_core.specs.declared.step.Op.TheVariants as op
use Rattle.norec_core.specs.declared.step.OpOutcome.TheVariants as outcome

-- what an attempt that has the lock knows
holder_of : {C : Type 0} (h : History) (t : ℕ) (a : Attempt C) (b : Bool) → b ≡ true → LockBy h t a b → (h.holder ≡ Some t) × (a.snapshot ≡ h.top) × (h.stored ≡ stored_of a.writes a.phase)
holder_of h t a true e k = k
holder_of h t a false e k = absurd (cc)

module _ {C : Type 0} (code : C → Effect C) (bounds : List ℕ) (t : ℕ) (c0 : C) (h : History) (words : List ℕ) (fits : FitsCells code bounds) (i : IsHistory bounds h words) where
  -- after a step with this access, that leaves this
  abbrev After : Part C → Access → (Answer → Next C) → Type 0
  After p a tell = StepOk code bounds t c0 h (lock_after h.lock a) (words_after words a) (part_after words p (tell (answer h.lock words a)))

  module _ (p : Part C) (ok : PartOk code bounds h t c0 p) where
    from : (q : Part C) → PartOk code bounds h t c0 q → StepOk code bounds t c0 h h.lock words q
    from q k = still code bounds t c0 h h.lock words q refl i k

    stays : StepOk code bounds t c0 h h.lock words p
    stays = from p ok

    running_step : (x : Effect C) → p.thread.attempt ≡ None → p.thread.status ≡ Running → code p.thread.configuration ≡ x → Ordered 0 p.records h.top → h.holder ≢ Some t → ComesTo code c0 p.records p.thread.configuration p.thread.text p.thread.status → After p (outside_access Running x) (told_outside code p.thread Running x)
    running_step (Begin d dc) e st ex ord nh s = from _ (outside_steps code bounds t c0 h words p ok.each ok.complete (Begin d dc) (Value h.lock) e st ex i ord nh s ok (λ d' dc' same. refl))
    running_step (Pure c) e st ex ord nh s = from _ (outside_steps code bounds t c0 h words p ok.each ok.complete (Pure c) Done e st ex i ord nh s ok (λ d dc same. absurd (cc)))
    running_step (Print piece c) e st ex ord nh s = from _ (outside_steps code bounds t c0 h words p ok.each ok.complete (Print piece c) Done e st ex i ord nh s ok (λ d dc same. absurd (cc)))
    running_step (Irrevocable c) e st ex ord nh s = from _ (outside_steps code bounds t c0 h words p ok.each ok.complete (Irrevocable c) Done e st ex i ord nh s ok (λ d dc same. absurd (cc)))
    running_step (Traps cause) e st ex ord nh s = from _ (outside_steps code bounds t c0 h words p ok.each ok.complete (Traps cause) Done e st ex i ord nh s ok (λ d dc same. absurd (cc)))
    running_step End e st ex ord nh s = from _ (outside_steps code bounds t c0 h words p ok.each ok.complete End Done e st ex i ord nh s ok (λ d dc same. absurd (cc)))
    running_step x e st ex ord nh s = stays

    outside_step_ok : (status : Status) (x : Effect C) → p.thread.attempt ≡ None → p.thread.status ≡ status → code p.thread.configuration ≡ x → Ordered 0 p.records h.top → h.holder ≢ Some t → ComesTo code c0 p.records p.thread.configuration p.thread.text p.thread.status → After p (outside_access status x) (told_outside code p.thread status x)
    outside_step_ok Running x e st ex ord nh s = running_step x e st ex ord nh s
    outside_step_ok HasEnded x e st ex ord nh s = stays
    outside_step_ok (HasTrapped cause) x e st ex ord nh s = stays

    module _ (a : Attempt C) (e : p.thread.attempt ≡ Some a) (ord : Ordered 0 p.records a.snapshot) (n : AttemptOk code bounds h t c0 p.records p.base p.thread.configuration a p.thread.text p.thread.status) where
      committed : IsHistory bounds h (overlay (h.mem h.top) h.stored)
      committed = record { even = i.even; lock = i.lock; contents = refl; memories = i.memories; stored_words = i.stored_words }

      -- what the core's step for the instruction x leaves
      abbrev Does : Effect C → Access → (Answer → CoreStep C) → Type 0
      Does x access step = After p access (λ answer. resume_next code p.thread x (step answer))

      unmoved : Does End Local (λ answer. on a outcome.Going)
      unmoved = from _ (unmoved_step code bounds t c0 h words i p ok.each ok.complete a e ord n)

      -- the next store of a commit that has the lock
      next_store : (c : C) (j : ℕ) (o : Option (ℕ × ℕ)) → slice_get a.writes j ≡ o → a.inner ≡ [] → code p.thread.configuration ≡ Commit c → has_lock a.kept a.phase ≡ true → h.stored ≡ take j a.writes
          → Does (Commit c) (store_access a.snapshot o) (λ answer. core_store a j o)
      next_store c j (Some q) g ei ex held st =
          let k = holder_of h t a (has_lock a.kept a.phase) held n.holds in
          store_word_step code bounds t c0 h words i p ok.each ok.complete a ord n k.0 k.1 c j q st g ei ex
      next_store c j None g ei ex held st =
          let k = holder_of h t a (has_lock a.kept a.phase) held n.holds in
          release_step code bounds t c0 h words i p ok.each ok.complete a ord n k.0 k.1 c p.thread.status a.writes (Commit c) (st ∙ take_whole a.writes j g) ex (λ m fs ls. rw (ei, n.steady.running) refl)

      read_at : (ad : ℕ) (k : ℕ → C) (o : Option ℕ) → overlay_word ad a.writes ≡ o → a.phase ≡ AtOperation → code p.thread.configuration ≡ Read ad k → Does (Read ad k) (read_access ad o) (core_read a o)
      read_at ad k (Some v) w ph ex = from _ (served_step code bounds t c0 h words p ok.each ok.complete a e ph ord n ad v k fits ex w)
      read_at ad k None w ph ex = from _ (word_step code bounds t c0 h words i p ok.each ok.complete a e ord n ad k a.kept refl ph ex (not_written ad a.writes w))

      commit_at : (c : C) (inner : List (Checkpoint C)) (kept : Bool) (ws : List (ℕ × ℕ)) → a.inner ≡ inner → a.kept ≡ kept → a.writes ≡ ws → a.phase ≡ AtOperation → code p.thread.configuration ≡ Commit c → Does (Commit c) (commit_access a inner kept ws) (core_commit a inner kept ws)
      commit_at c [] true ws ei ek ew ph ex =
          next_store c 0 (slice_get ws 0) (ap (λ l. slice_get l 0) ew) ei ex (rw ek refl) ((holder_of h t a (has_lock a.kept a.phase) (rw ek refl) n.holds).2 ∙ ap (stored_of a.writes) ph)
      commit_at c [] false [] ei ek ew ph ex = from _ (read_only_commit_step code bounds t c0 h words p ok.each ok.complete a e ph ord n committed ek c ei ew ex)
      commit_at c [] false (q ∷ qs) ei ek ew ph ex = commit_swap_step code bounds t c0 h words i p ok.each ok.complete a ord n e ph ek c ei ex
      commit_at c (l ∷ ls) kept ws ei ek ew ph ex = from _ (inner_commit_step code bounds t c0 h words p ok.each ok.complete a e ph ord n c l ls ei ex)

      cancel_at : (inner : List (Checkpoint C)) (kept : Bool) → a.inner ≡ inner → a.kept ≡ kept → a.phase ≡ AtOperation → code p.thread.configuration ≡ Cancel → Does Cancel Local (λ answer. core_cancel a inner kept)
      cancel_at [] false ei ek ph ex = from _ (cancel_step code bounds t c0 h words p ok.each ok.complete a e ph ord n committed ek ei ex)
      cancel_at [] true ei ek ph ex = unmoved
      cancel_at (l ∷ ls) kept ei ek ph ex = from _ (inner_cancel_step code bounds t c0 h words p ok.each ok.complete a e ph ord n l ls ei ex)

      outer_cancel_at : (levels : ℕ) (inner : List (Checkpoint C)) (kept : Bool) → drop (levels - 1) a.inner ≡ inner → a.kept ≡ kept → a.phase ≡ AtOperation → code p.thread.configuration ≡ CancelOuter levels
          → Does (CancelOuter levels) Local (λ answer. core_cancel a inner kept)
      outer_cancel_at levels [] false ei ek ph ex = from _ (outer_cancel_step code bounds t c0 h words p ok.each ok.complete a e ph ord n committed ek levels ei ex)
      outer_cancel_at levels [] true ei ek ph ex = unmoved
      outer_cancel_at levels (l ∷ ls) kept ei ek ph ex = from _ (inner_outer_cancel_step code bounds t c0 h words p ok.each ok.complete a e ph ord n levels l ls ei ex)

      irrevocable_at : (c : C) (kept : Bool) → a.kept ≡ kept → a.phase ≡ AtOperation → code p.thread.configuration ≡ Irrevocable c → Does (Irrevocable c) (cond kept Local (Swap a.snapshot)) (λ answer. cond kept (on a outcome.Done) (core_swap a (record a { kept = true }) outcome.Done answer))
      irrevocable_at c true ek ph ex = from _ (kept_irrevocable_step code bounds t c0 h words p ok.each ok.complete a e ph ord n c ek ex)
      irrevocable_at c false ek ph ex = irrevocable_step code bounds t c0 h words i p ok.each ok.complete a ord n e ph ek c ex

      release_at : (cause : Trap) (kept : Bool) → a.kept ≡ kept → a.phase ≡ AtOperation → code p.thread.configuration ≡ Traps cause → Does (Traps cause) (cond kept (StoreLock (a.snapshot + 2)) Local) (λ answer. off a None kept [])
      release_at cause false ek ph ex = from _ (trap_step code bounds t c0 h words p ok.each ok.complete a e ph ord n committed ek cause ex)
      release_at cause true ek ph ex =
          let k = holder_of h t a (has_lock a.kept a.phase) (rw ek refl) n.holds in
          release_step code bounds t c0 h words i p ok.each ok.complete a ord n k.0 k.1 p.thread.configuration (HasTrapped cause) [] (Traps cause) (k.2 ∙ ap (stored_of a.writes) ph) ex (λ m fs ls. refl)

      -- the instruction is not the one that the phase belongs to
      other_read : (v : ℕ) (x : Effect C) {P : Type 0} → code p.thread.configuration ≡ x → InHand code h a p.thread.configuration (ReadsLock v) → ((ad : ℕ) (k : ℕ → C) → x ≢ Read ad k) → P
      other_read v x ex hand none = absurd (none hand.0 hand.1 (sym ex ∙ hand.2))

      other_commit : (j : ℕ) (x : Effect C) {P : Type 0} → code p.thread.configuration ≡ x → InHand code h a p.thread.configuration (Stores j) → ((c : C) → x ≢ Commit c) → P
      other_commit j x ex hand none = absurd (none hand.1.0 (sym ex ∙ hand.1.1))

      -- validation
      compare_at : (x : Effect C) (time j : ℕ) (o : Option (ℕ × ℕ)) → slice_get a.reads j ≡ o → a.phase ≡ ValidatesEntry time j → InHand code h a p.thread.configuration (ValidatesEntry time j) → Does x (entry_access o) (core_compare a time j o)
      compare_at x time j None g ph hand = from _ (compare_step code bounds t c0 h words i p ok.each ok.complete a e ord n x time j None (Value h.lock) (rw (ph, hand.0) refl) g hand (λ q f. absurd (cc)) (λ f. refl))
      compare_at x time j (Some q) g ph hand = from _ (compare_step code bounds t c0 h words i p ok.each ok.complete a e ord n x time j (Some q) (Value (slice_index words q.0)) (rw (ph, hand.0) refl) g hand (λ r f. let same : q ≡ r = cc in ap (λ (x : ℕ × ℕ). Value (slice_index words x.0)) same) (λ f. absurd (cc)))

      time_at : (x : Effect C) → a.phase ≡ ValidatesTime → InHand code h a p.thread.configuration ValidatesTime → Does x LoadLock (core_time a)
      time_at x ph hand = from _ (time_step code bounds t c0 h words i p ok.each ok.complete a e ord n x (rw (ph, hand.0) refl) hand.1)

      -- an operation in each phase: its first step, and those of a read and a commit
      phases : (x : Effect C) (o : Op) (q : Phase) → a.phase ≡ q → InHand code h a p.thread.configuration q
          → (a.phase ≡ AtOperation → Does x (operation_access a o) (core_operation p.thread.configuration a o))
          → ((v : ℕ) → a.phase ≡ ReadsLock v → InHand code h a p.thread.configuration (ReadsLock v) → Does x LoadLock (core_check a o v))
          → ((j : ℕ) → a.phase ≡ Stores j → InHand code h a p.thread.configuration (Stores j) → Does x (store_access a.snapshot (slice_get a.writes j)) (core_phase p.thread.configuration a (Stores j) o))
          → Does x (phase_access a q o) (core_phase p.thread.configuration a q o)
      phases x o AtOperation ph hand here check store = here ph
      phases x o (ReadsLock v) ph hand here check store = check v ph hand
      phases x o ValidatesTime ph hand here check store = time_at x ph hand
      phases x o (ValidatesEntry time j) ph hand here check store = compare_at x time j (slice_get a.reads j) refl ph hand
      phases x o (Stores j) ph hand here check store = store j ph hand

      -- the thread's committed work is done at an operation
      at_operation : (q : Phase) → InHand code h a p.thread.configuration q → (Validates (code p.thread.configuration) → ⊥) → ((ad : ℕ) (k : ℕ → C) → code p.thread.configuration ≢ Read ad k) → ((c : C) → code p.thread.configuration ≢ Commit c) → q ≡ AtOperation
      at_operation AtOperation hand never no_read no_commit = refl
      at_operation (ReadsLock v) hand never no_read no_commit = absurd (no_read hand.0 hand.1 hand.2)
      at_operation ValidatesTime hand never no_read no_commit = absurd (never hand.1)
      at_operation (ValidatesEntry time j) hand never no_read no_commit = absurd (never hand.5)
      at_operation (Stores j) hand never no_read no_commit = absurd (no_commit hand.1.0 hand.1.1)

      own_phase : (x : Effect C) → code p.thread.configuration ≡ x → (Validates x → ⊥) → ((ad : ℕ) (k : ℕ → C) → x ≢ Read ad k) → ((c : C) → x ≢ Commit c) → a.phase ≡ AtOperation
      own_phase x ex never no_read no_commit = at_operation a.phase n.in_hand (λ v. never (subst Validates ex v)) (λ ad k f. no_read ad k (sym ex ∙ f)) (λ c f. no_commit c (sym ex ∙ f))

      abbrev Goal : Effect C → Type 0
      Goal x = After p (inside_access a (op_of x a.kept p.thread.trapping)) (told_inside code p.thread a x (op_of x a.kept p.thread.trapping))

      check_at : (ad : ℕ) (k : ℕ → C) → code p.thread.configuration ≡ Read ad k → (v : ℕ) → a.phase ≡ ReadsLock v → InHand code h a p.thread.configuration (ReadsLock v) → Does (Read ad k) LoadLock (core_check a (op.Read ad) v)
      check_at ad k ex v ph hand = from _ (check_step code bounds t c0 h words i p ok.each ok.complete a e ord n v ad k (rw (ph, hand.4) refl) ex hand)

      storing_at : (c : C) → code p.thread.configuration ≡ Commit c → (j : ℕ) → a.phase ≡ Stores j → InHand code h a p.thread.configuration (Stores j) → Does (Commit c) (store_access a.snapshot (slice_get a.writes j)) (λ answer. core_store a j (slice_get a.writes j))
      storing_at c ex j ph hand = next_store c j (slice_get a.writes j) refl hand.0 ex (rw ph (held a.kept)) ((holder_of h t a (has_lock a.kept a.phase) (rw ph (held a.kept)) n.holds).2 ∙ ap (stored_of a.writes) ph)
        where
          held : (kept : Bool) → has_lock kept (Stores j) ≡ true
          held true = refl
          held false = refl

      trap_at : (cause : Trap) (kept trapping : Bool) → a.kept ≡ kept → a.phase ≡ AtOperation → code p.thread.configuration ≡ Traps cause → After p (inside_access a (op_of {C = C} (Traps cause) kept trapping)) (told_inside code p.thread a (Traps cause) (op_of {C = C} (Traps cause) kept trapping))
      trap_at cause true false ek ph ex = from _ (attempt_part code bounds t c0 h _ a e ok.each ord ok.complete n)
      trap_at cause true true ek ph ex = rw (ph, ek) (release_at cause true ek ph ex)
      trap_at cause false trapping ek ph ex = rw (ph, ek) (release_at cause false ek ph ex)

      by_effect : (x : Effect C) → code p.thread.configuration ≡ x → Goal x
      by_effect (Pure c) ex = from _ (pure_step code bounds t c0 h words p ok.each ok.complete a e (own_phase (Pure c) ex (λ f. f) (λ ad k f. absurd (cc)) (λ c' f. absurd (cc))) ord n c ex)
      by_effect (Print piece c) ex = from _ (print_step code bounds t c0 h words p ok.each ok.complete a e (own_phase (Print piece c) ex (λ f. f) (λ ad k f. absurd (cc)) (λ c' f. absurd (cc))) ord n piece c a.kept refl ex ok)
      by_effect End ex = stays
      by_effect (Traps cause) ex = trap_at cause a.kept p.thread.trapping refl (own_phase (Traps cause) ex (λ f. f) (λ ad k f. absurd (cc)) (λ c' f. absurd (cc))) ex
      by_effect (Begin c d) ex = phases (Begin c d) op.Begin a.phase refl n.in_hand
          (λ ph. from _ (inner_begin_step code bounds t c0 h words p ok.each ok.complete a e ph ord n c d ex))
          (λ v ph hand. other_read v (Begin c d) ex hand (λ ad k f. absurd (cc)))
          (λ j ph hand. other_commit j (Begin c d) ex hand (λ c' f. absurd (cc)))
      by_effect (Read ad k) ex = phases (Read ad k) (op.Read ad) a.phase refl n.in_hand
          (λ ph. read_at ad k (overlay_word ad a.writes) refl ph ex)
          (check_at ad k ex)
          (λ j ph hand. other_commit j (Read ad k) ex hand (λ c' f. absurd (cc)))
      by_effect (Write ad v c) ex = phases (Write ad v c) (op.Write ad v) a.phase refl n.in_hand
          (λ ph. from _ (write_step code bounds t c0 h words p ok.each ok.complete a e ph ord n ad v c fits ex))
          (λ w ph hand. other_read w (Write ad v c) ex hand (λ ad' k f. absurd (cc)))
          (λ j ph hand. other_commit j (Write ad v c) ex hand (λ c' f. absurd (cc)))
      by_effect (Commit c) ex = phases (Commit c) op.Commit a.phase refl n.in_hand
          (λ ph. commit_at c a.inner a.kept a.writes refl refl refl ph ex)
          (λ v ph hand. other_read v (Commit c) ex hand (λ ad k f. absurd (cc)))
          (storing_at c ex)
      by_effect Cancel ex = phases Cancel op.Cancel a.phase refl n.in_hand
          (λ ph. cancel_at a.inner a.kept refl refl ph ex)
          (λ v ph hand. other_read v Cancel ex hand (λ ad k f. absurd (cc)))
          (λ j ph hand. other_commit j Cancel ex hand (λ c' f. absurd (cc)))
      by_effect (CancelOuter levels) ex = phases (CancelOuter levels) (op.CancelOuter levels) a.phase refl n.in_hand
          (λ ph. outer_cancel_at levels (drop (levels - 1) a.inner) a.kept refl refl ph ex)
          (λ v ph hand. other_read v (CancelOuter levels) ex hand (λ ad k f. absurd (cc)))
          (λ j ph hand. other_commit j (CancelOuter levels) ex hand (λ c' f. absurd (cc)))
      by_effect (Irrevocable c) ex = phases (Irrevocable c) op.Irrevocable a.phase refl n.in_hand
          (λ ph. irrevocable_at c a.kept refl ph ex)
          (λ v ph hand. other_read v (Irrevocable c) ex hand (λ ad k f. absurd (cc)))
          (λ j ph hand. other_commit j (Irrevocable c) ex hand (λ c' f. absurd (cc)))

    by_attempt : (o : Option (Attempt C)) → p.thread.attempt ≡ o → Ordered 0 p.records (bound_of h o) → Now code bounds h t c0 p.records p.base p.thread o → After p (access_of p.thread o (code p.thread.configuration)) (told_of code p.thread o (code p.thread.configuration))
    by_attempt None e ord now = outside_step_ok p.thread.status (code p.thread.configuration) e refl refl ord now.1 now.0
    by_attempt (Some a) e ord now = by_effect a e ord now (code p.thread.configuration) refl

    -- one step of one part
    pub part_step : After p (access code p.thread) (step_with code p.thread)
    part_step = by_attempt p.thread.attempt refl ok.ordered ok.now
