-- A world's next step.
use Rattle.std.proofs.Common.{◌≡◌, ◌<◌, ◌≤◌, ◌+◌, ◌%◌, ◌^◌, ◌⊎◌, inl, inr, append-nil, ℕ, zero, suc, Bool, true, false, List, [], ◌∷◌, ◌++◌, Option, None, Some, length, refl, sym, ◌∙◌, ap, subst, slice_get, set, replicate, take, arith, length-append, append_assoc}
use Rattle.std.specs.Prelude.{option_map, Result, Err, ◌↔◌}
use Rattle.std.proofs.Math.ListN.{length-set}
use Rattle.syntax.specs.Behaviours.{IsMemory}
use Rattle.bytecode.proofs.Fits.{fits_cells}
use Rattle.bytecode.specs.Beginning.{beginning}
use Rattle.bytecode.specs.Code.{Code, Configuration, effect}
use Rattle.bytecode.specs.Initial.{initial_of}
use Rattle.bytecode.specs.Sequential.{meaning}
use Rattle.bytecode.specs.Valid.{bounds_of}
use Rattle.norec_core.specs.Accesses.{IsAnswerTo, cost, stops}
use Rattle.norec_core.specs.declared.step.Access.{Access}
use Rattle.norec_core.specs.declared.step.Access.TheVariants.{LoadLock, LoadWord, Local, StoreLock, StoreWord, Swap}
use Rattle.norec_core.specs.Attempts.{Attempt}
use Rattle.norec_core.specs.declared.step.Answer.{Answer}
use Rattle.norec_core.specs.declared.step.Stop.{Stop}
use Rattle.norec_core.specs.declared.step.Stop.TheVariants.{SequenceUsedUp}
use Rattle.machine.specs.declared.event.Event.{Event}
use Rattle.machine.specs.declared.event.StepShown.{StepShown}
use Rattle.machine.specs.NamedCells.{AccessFits, IsMakeable}
use Rattle.machine.specs.Answered.{Answered, Heard}
use Rattle.machine.specs.Explained.{HasLock, IsExplainedBy, IsFree, IsHeld, has_lock}
use Rattle.machine.specs.Merges.{Entry, IsMerge}
use Rattle.machine.specs.Standing.{IsThreadOf}
use Rattle.machine.specs.States.{IsWordOf, ThreadState, attempt_has_lock, thread_has_lock}
use Rattle.machine.specs.Tallies.{IsOpenAfter, IsOverAfter}
use Rattle.machine.specs.Threads.{Thread, access, step_with}
use Rattle.machine.specs.Traces.{DoesNotStop, RunsOn, heard_run}
use Rattle.machine.specs.Worlds.{Part, World, answer, lock_after, new_world, part_after, run, step, step_of, words_after}
use Rattle.machine.proofs.answers.Answering.{reached}
use Rattle.machine.proofs.answers.Reached.{memory, runs, swaps_even, unheld, within}
use Rattle.machine.proofs.answers.Traces.{answered}
use Rattle.machine.proofs.runs.Computes.{all_compute}
use Rattle.machine.proofs.runs.Drops.{drops_are_bounded, drops_come_after_takings}
use Rattle.machine.proofs.runs.OneOrder.{one_order}
use Rattle.machine.proofs.runs.Programs.{opaque, opaque_source, serializable_source}
use Rattle.machine.proofs.runs.Strict.{strictly_serializable}
use Rattle.machine.proofs.single.Aborts.{abort_reason}
use Rattle.machine.proofs.single.Locked.{never_aborts}
use Rattle.machine.proofs.tallies.Spans.{counts_by_meaning}
use Rattle.world.proofs.Cells.{answer_fits, initial_fits, memory_length, word_fits}
use Rattle.world.specs.Simulations.{CountsAccesses, IsExplained, IsHolder, Simulation, accesses_in, accesses_of, cost_next, earlier, event_at, event_next, further, output_at, shown_at, shown_by, shown_next, part_of, status_at, stops_at, stops_next, world_of}
use Rattle.world.specs.inner.Costs.{cost_at}
use Rattle.world.specs.inner.Following.{AreOfParts, IsOfPart, IsWorldOf}

module _ (code : Code) where
  -- the part of a thread
  pub part_here : (most : ℕ) (xs : List ThreadState) (ps : List (Part Configuration)) (t : ℕ) (x : ThreadState) → AreOfParts code most xs ps → slice_get xs t ≡ Some x
      → (p : Part Configuration) × (slice_get ps t ≡ Some p) × IsOfPart code most x p
  part_here most [] ps t x all e = absurd (cc)
  part_here most (y ∷ xs) [] t x all e = absurd all
  part_here most (y ∷ xs) (p ∷ ps) zero x all e = (p, refl, subst (λ (z : ThreadState). IsOfPart code most z p) (let f : y ≡ x = cc in f) all.0)
  part_here most (y ∷ xs) (p ∷ ps) (suc t) x all e = part_here most xs ps t x all.1 e

  -- they are so with more accesses too
  allowed : (most more : ℕ) (xs : List ThreadState) (ps : List (Part Configuration)) → most ≤ more → AreOfParts code most xs ps → AreOfParts code more xs ps
  allowed most more [] [] le all = tt
  allowed most more [] (p ∷ ps) le all = absurd all
  allowed most more (x ∷ xs) [] le all = absurd all
  allowed most more (x ∷ xs) (p ∷ ps) le all =
      (record { thread = all.0.thread; of = all.0.of; few = (let f = all.0.few in omega arith) }, allowed most more xs ps le all.1)

  -- one of them, which was made ready for a step
  again : (most : ℕ) (xs : List ThreadState) (ps : List (Part Configuration)) (t : ℕ) (x y : ThreadState) → AreOfParts code most xs ps → slice_get xs t ≡ Some x → y.thread ≡ x.thread → y.accesses ≡ x.accesses → AreOfParts code most (set xs t y) ps
  again most [] ps t x y all e same count = absurd (cc)
  again most (z ∷ xs) [] t x y all e same count = absurd all
  again most (z ∷ xs) (p ∷ ps) zero x y all e same count =
      let f : x ≡ z = cc in
      let th : y.thread ≡ z.thread = same ∙ ap (λ (v : ThreadState). v.thread) f in
      let n : y.accesses ≡ z.accesses = count ∙ ap (λ (v : ThreadState). v.accesses) f in
      (record { thread = th ∙ all.0.thread; of = subst (IsThreadOf code) (sym th) all.0.of; few = (let few = all.0.few in omega arith) }, all.1)
  again most (z ∷ xs) (p ∷ ps) (suc t) x y all e same count = (all.0, again most xs ps t x y all.1 e same count)

  -- the thread of a part
  pub thread_here : (most : ℕ) (xs : List ThreadState) (ps : List (Part Configuration)) (t : ℕ) (p : Part Configuration) → AreOfParts code most xs ps → slice_get ps t ≡ Some p
      → (x : ThreadState) × (slice_get xs t ≡ Some x) × (x.thread ≡ p.thread)
  thread_here most [] [] t p all e = absurd (cc)
  thread_here most [] (q ∷ ps) t p all e = absurd all
  thread_here most (x ∷ xs) [] t p all e = absurd all
  thread_here most (x ∷ xs) (q ∷ ps) zero p all e = (x, refl, all.0.thread ∙ ap (λ (v : Part Configuration). v.thread) (let f : q ≡ p = cc in f))
  thread_here most (x ∷ xs) (q ∷ ps) (suc t) p all e = thread_here most xs ps t p all.1 e

  -- one of them changed
  changed : (most : ℕ) (xs : List ThreadState) (ps : List (Part Configuration)) (t : ℕ) (y : ThreadState) (q : Part Configuration) → AreOfParts code most xs ps → IsOfPart code most y q → AreOfParts code most (set xs t y) (set ps t q)
  changed most [] [] t y q all is = tt
  changed most [] (p ∷ ps) t y q all is = absurd all
  changed most (x ∷ xs) [] t y q all is = absurd all
  changed most (x ∷ xs) (p ∷ ps) zero y q all is = (is, all.1)
  changed most (x ∷ xs) (p ∷ ps) (suc t) y q all is = (all.0, changed most xs ps t y q all.1 is)

  -- one step more
  pub run_more : (ts us : List ℕ) (w : World Configuration) → run (effect code) (ts ++ us) w ≡ run (effect code) us (run (effect code) ts w)
  run_more [] us w = refl
  run_more (t ∷ ts) us w = run_more ts us (step (effect code) w t)

  accesses_more : (ts : List ℕ) (t : ℕ) (w : World Configuration) → accesses_in code (ts ++ t ∷ []) w ≡ accesses_in code ts w + cost_next code (slice_get (run (effect code) ts w).parts t)
  accesses_more [] t w = omega arith
  accesses_more (u ∷ ts) t w = let e = accesses_more ts t (step (effect code) w u) in omega arith

  accesses_on : (ts us : List ℕ) (w : World Configuration) → accesses_in code (ts ++ us) w ≡ accesses_in code ts w + accesses_in code us (run (effect code) ts w)
  accesses_on [] us w = omega arith
  accesses_on (u ∷ ts) us w = let e = accesses_on ts us (step (effect code) w u) in omega arith

  runs_more : (ts : List ℕ) (t : ℕ) (w : World Configuration) → RunsOn (effect code) ts w → DoesNotStop (effect code) (slice_get (run (effect code) ts w).parts t) → RunsOn (effect code) (ts ++ t ∷ []) w
  runs_more [] t w all on = (on, tt)
  runs_more (u ∷ ts) t w all on = (all.0, runs_more ts t (step (effect code) w u) all.1 on)

-- a step makes at most one access
at_most_one : (x : Access) → cost x ≤ 1
at_most_one Local = omega arith
at_most_one x = omega arith

module _ (s : Simulation) (lock : ℕ) (words : List ℕ) (threads : List ThreadState) (accesses : ℕ) (k : IsWorldOf s lock words threads accesses) where
  abbrev w : World Configuration
  w = world_of s

  heard : List (List Heard)
  heard = heard_run (effect s.code) s.trace (new_world (beginning s.code) (initial_of s.code) s.threads) (replicate s.threads [])

  is_answered : Answered (effect s.code) (beginning s.code) (initial_of s.code) s.threads w heard
  unfolding heard
  is_answered = answered (effect s.code) (beginning s.code) (initial_of s.code) s.threads s.trace k.runs_on

  counted : CountsAccesses s
  counted t p us n begins quiet grown =
      subst (λ (x : ℕ × World Configuration). IsOpenAfter (effect s.code) w t p x.0 x.1 ⊎ IsOverAfter (effect s.code) w t p x.0 x.1) (λ i. (same i, sym (run_more s.code s.trace (t ∷ us) (new_world (beginning s.code) (initial_of s.code) s.threads)) i))
      (counts_by_meaning (effect s.code) (beginning s.code) (bounds_of s.code) (initial_of s.code) (initial_fits s.code) (fits_cells s.code k.valid) s.threads s.trace t p us begins quiet)
    where
      same : accesses_in s.code (t ∷ us) w ≡ n
      same = let e = accesses_on s.code s.trace (t ∷ us) (new_world (beginning s.code) (initial_of s.code) s.threads) in omega arith

  pub explained : IsExplained s
  explained = record {
    reached = reached (effect s.code) (beginning s.code) (initial_of s.code) s.threads w heard is_answered;
    code = opaque (effect s.code) (beginning s.code) (bounds_of s.code) (initial_of s.code) (initial_fits s.code) (fits_cells s.code k.valid) s.threads s.trace;
    programs = λ program means. opaque_source (effect s.code) (beginning s.code) (bounds_of s.code) (initial_of s.code) (initial_fits s.code) (fits_cells s.code k.valid) program means s.threads (let f = k.few in omega arith) s.trace;
    strict = λ program means us.
        strictly_serializable (effect s.code) (beginning s.code) (bounds_of s.code) (initial_of s.code) (initial_fits s.code) (fits_cells s.code k.valid) program s.threads s.trace us
        (serializable_source (effect s.code) (beginning s.code) (bounds_of s.code) (initial_of s.code) (initial_fits s.code) (fits_cells s.code k.valid) program means s.threads (let f = k.few in omega arith) (s.trace ++ us));
    order = one_order (effect s.code) (beginning s.code) (bounds_of s.code) (initial_of s.code) (initial_fits s.code) (fits_cells s.code k.valid) s.threads s.trace;
    attempts = all_compute (effect s.code) (beginning s.code) (bounds_of s.code) (initial_of s.code) (initial_fits s.code) (fits_cells s.code k.valid) s.threads s.trace;
    drops = drops_are_bounded (effect s.code) (beginning s.code) (bounds_of s.code) (initial_of s.code) (initial_fits s.code) (fits_cells s.code k.valid) s.threads s.trace;
    changes = λ n t p a here has gone none. abort_reason (effect s.code) p.thread a (world_of (earlier s n)).lock (world_of (earlier s n)).words has gone none;
    takings = λ n. drops_come_after_takings (effect s.code) (beginning s.code) (bounds_of s.code) (initial_of s.code) (initial_fits s.code) (fits_cells s.code k.valid) s.threads (take n s.trace);
    holders = never_aborts (effect s.code) (beginning s.code) (bounds_of s.code) (initial_of s.code) (initial_fits s.code) (fits_cells s.code k.valid) s.threads s.trace;
    counts = counted;
  }

  is_memory : IsMemory (bounds_of s.code) words
  is_memory = subst (IsMemory (bounds_of s.code)) (sym k.words_are) (memory (effect s.code) (beginning s.code) (bounds_of s.code) (initial_of s.code) (initial_fits s.code) (fits_cells s.code k.valid) s.threads w heard is_answered)

  -- a thread that is about to step
  module _ (t : ℕ) (x : ThreadState) (here : slice_get threads t ≡ Some x) where
    part : (p : Part Configuration) × (slice_get w.parts t ≡ Some p) × IsOfPart s.code (length s.trace) x p
    part = part_here s.code (length s.trace) threads w.parts t x k.threads_are here

    pub of_code : IsThreadOf s.code x.thread
    of_code = part.2.of

    abbrev a : Access
    a = access (effect s.code) x.thread

    same_access : access (effect s.code) part.0.thread ≡ a
    same_access = ap (access (effect s.code)) (sym part.2.thread)

    names_cell : AccessFits (length (bounds_of s.code)) a
    names_cell = subst (AccessFits (length (bounds_of s.code))) same_access (within (effect s.code) (beginning s.code) (bounds_of s.code) (initial_of s.code) (initial_fits s.code) (fits_cells s.code k.valid) s.threads w heard is_answered t part.0 part.1)

    pub makeable : IsMakeable (length words) a
    makeable = at a refl (subst (λ n. AccessFits n a) cells names_cell)
      where
        cells : length (bounds_of s.code) ≡ length words
        cells = memory_length (bounds_of s.code) words is_memory

        at : (y : Access) → a ≡ y → AccessFits (length words) y → IsMakeable (length words) y
        at Local e f = tt
        at LoadLock e f = tt
        at (LoadWord ad) e f = f
        at (Swap from) e f = swaps_even (effect s.code) (beginning s.code) (bounds_of s.code) (initial_of s.code) (initial_fits s.code) (fits_cells s.code k.valid) s.threads w heard is_answered t part.0 from part.1 (same_access ∙ e)
        at (StoreWord ad v) e f = f
        at (StoreLock n) e f = tt

    pub fits : IsAnswerTo a (answer lock words a)
    fits = answer_fits a lock words

    pub word : IsWordOf s.code a (answer lock words a)
    word = word_fits s.code a lock words names_cell is_memory

    pub count : length s.trace + 1 < 2 ^ 64 → x.accesses + cost a < 2 ^ 64
    count room = let one = at_most_one a in let f = part.2.few in omega arith

    pub counts : length s.trace + 1 < 2 ^ 64 → accesses + cost a < 2 ^ 64
    counts room = let one = at_most_one a in let f = k.at_most in omega arith

    pub stops_is : stops_at s t ≡ stops a
    stops_is = ap (stops_next s.code) part.1 ∙ ap stops same_access

    -- how it is, and what it has printed
    pub status_is : status_at s t ≡ Some x.thread.status
    status_is = ap (option_map (λ (p : Part Configuration). p.thread.status)) part.1 ∙ ap (λ (th : Thread Configuration). Some th.status) (sym part.2.thread)

    pub output_is : output_at s t ≡ Some x.thread.text
    output_is = ap (option_map (λ (p : Part Configuration). p.thread.text)) part.1 ∙ ap (λ (th : Thread Configuration). Some th.text) (sym part.2.thread)

    -- the thread after it
    module _ (y : ThreadState) (on : stops a ≡ false) (next : y.thread ≡ (step_with (effect s.code) x.thread (answer lock words a)).thread) (of : IsThreadOf s.code y.thread) (counted : y.accesses ≡ x.accesses + cost a) where
      q : Part Configuration
      q = part_after w.words part.0 (step_with (effect s.code) part.0.thread (answer w.lock w.words (access (effect s.code) part.0.thread)))

      is_part : IsOfPart s.code (length (s.trace ++ t ∷ [])) y q
      unfolding q
      is_part = record {
        thread = next ∙ (λ i. (step_with (effect s.code) (part.2.thread i) (answer (k.lock_is i) (k.words_are i) (access (effect s.code) (part.2.thread i)))).thread);
        of = of;
        few = (let one = at_most_one a in let f = part.2.few in let l = length-append s.trace (t ∷ []) in omega arith);
      }

      after : World Configuration
      after = record {
        lock = lock_after w.lock (access (effect s.code) part.0.thread);
        words = words_after w.words (access (effect s.code) part.0.thread);
        parts = set w.parts t q;
      }

      leads : world_of (further s (t ∷ [])) ≡ after
      unfolding q after
      leads = run_more s.code s.trace (t ∷ []) (new_world (beginning s.code) (initial_of s.code) s.threads) ∙ ap (step_of (effect s.code) w t) part.1

      pub stepped : IsWorldOf (further s (t ∷ [])) (lock_after lock a) (words_after words a) (set threads t y) (accesses + cost a)
      unfolding q after
      stepped = record {
        valid = k.valid;
        few = k.few;
        count = k.count ∙ sym (length-set threads t y);
        lock_is = (λ i. lock_after (k.lock_is i) (sym same_access i)) ∙ ap (λ (v : World Configuration). v.lock) (sym leads);
        words_are = (λ i. words_after (k.words_are i) (sym same_access i)) ∙ ap (λ (v : World Configuration). v.words) (sym leads);
        threads_are = subst (λ (v : World Configuration). AreOfParts s.code (length (s.trace ++ t ∷ [])) (set threads t y) v.parts) (sym leads)
            (changed s.code (length (s.trace ++ t ∷ [])) threads w.parts t y q (allowed s.code (length s.trace) (length (s.trace ++ t ∷ [])) threads w.parts (let l = length-append s.trace (t ∷ []) in omega arith) k.threads_are) is_part);
        accesses_are = (λ i. k.accesses_are i + cost (sym same_access i)) ∙ ap (λ n. accesses_of s + n) (ap (cost_next s.code) (sym part.1)) ∙ sym (accesses_more s.code s.trace t (new_world (beginning s.code) (initial_of s.code) s.threads));
        at_most = (let one = at_most_one a in let f = k.at_most in let l = length-append s.trace (t ∷ []) in omega arith);
        runs_on = runs_more s.code s.trace t (new_world (beginning s.code) (initial_of s.code) s.threads) k.runs_on (subst (DoesNotStop (effect s.code)) (sym part.1) (ap stops same_access ∙ on));
      }

    -- the thread made ready for its step
    module _ (y : ThreadState) (th : y.thread ≡ x.thread) (n : y.accesses ≡ x.accesses) where
      pub same_simulation : (trace : List ℕ) → trace ≡ s.trace → record { code = s.code; threads = length (set threads t y); trace = trace } ≡ s
      same_simulation trace e = λ i. record { code = s.code; threads = (length-set threads t y ∙ sym k.count) i; trace = e i }

      pub same_world : (trace : List ℕ) → trace ≡ s.trace → IsWorldOf (record { code = s.code; threads = length (set threads t y); trace = trace }) lock words (set threads t y) accesses
      same_world trace e = subst (λ (v : Simulation). IsWorldOf v lock words (set threads t y) accesses) (sym (same_simulation trace e))
          (record {
            valid = k.valid;
            few = k.few;
            count = k.count ∙ sym (length-set threads t y);
            lock_is = k.lock_is;
            words_are = k.words_are;
            threads_are = again s.code (length s.trace) threads w.parts t x y k.threads_are here th n;
            accesses_are = k.accesses_are;
            at_most = k.at_most;
            runs_on = k.runs_on;
          })

      pub ready_of : IsThreadOf s.code y.thread
      ready_of = subst (IsThreadOf s.code) (sym th) of_code

      b : access (effect s.code) y.thread ≡ a
      b = ap (access (effect s.code)) th

      module _ (made : Access) (made_is : made ≡ a) where
        pub ready_makeable : IsMakeable (length words) made
        ready_makeable = subst (IsMakeable (length words)) (sym made_is) makeable

        pub ready_count : length s.trace + 1 < 2 ^ 64 → y.accesses + cost (access (effect s.code) y.thread) < 2 ^ 64
        ready_count room = let c = count room in let e = ap cost b in omega arith

        pub ready_counts : length s.trace + 1 < 2 ^ 64 → (m : ℕ) → m ≡ cost made → accesses + m < 2 ^ 64
        ready_counts room m e = let c = counts room in let f = ap cost made_is in omega arith

        pub never : stops made ≡ false → stops_at s t ≡ true → ⊥
        never on stop = absurd (let e : true ≡ false = sym stop ∙ stops_is ∙ ap stops (sym made_is) ∙ on in cc)

        module _ (reply : Answer) (reply_is : reply ≡ answer lock words made) where
          same_answer : reply ≡ answer lock words a
          same_answer = reply_is ∙ ap (answer lock words) made_is

          pub ready_fits : IsAnswerTo (access (effect s.code) y.thread) reply
          ready_fits = subst (λ (z : Access × Answer). IsAnswerTo z.0 z.1) (λ i. (sym b i, sym same_answer i)) fits

          pub ready_word : IsWordOf s.code (access (effect s.code) y.thread) reply
          ready_word = subst (λ (z : Access × Answer). IsWordOf s.code z.0 z.1) (λ i. (sym b i, sym same_answer i)) word

          pub ready_shown : (event : Event) → event ≡ (step_with (effect s.code) y.thread reply).event → shown_at s t ≡ Some (record { status = x.thread.status; place = x.thread.configuration.place; access = made; answer = reply; event = event })
          ready_shown event e =
              let of_part : access (effect s.code) part.0.thread ≡ made = same_access ∙ sym made_is in
              let of_reply : answer w.lock w.words (access (effect s.code) part.0.thread) ≡ reply = (λ i. answer (sym k.lock_is i) (sym k.words_are i) (of_part i)) ∙ sym reply_is in
              let of_event : (step_with (effect s.code) part.0.thread (answer w.lock w.words (access (effect s.code) part.0.thread))).event ≡ event = (λ i. (step_with (effect s.code) ((sym part.2.thread ∙ sym th) i) (of_reply i)).event) ∙ sym e in
              ap (shown_next s.code w) part.1 ∙ (λ i. Some (record { status = (sym part.2.thread i).status; place = (sym part.2.thread i).configuration.place; access = of_part i; answer = of_reply i; event = of_event i }))

          module _ (z : ThreadState) (on : stops made ≡ false) (next : z.thread ≡ (step_with (effect s.code) y.thread reply).thread) (of : IsThreadOf s.code z.thread) (counted : z.accesses ≡ y.accesses + cost (access (effect s.code) y.thread))
              (lock_now : ℕ) (words_now : List ℕ) (m : ℕ) (trace_now : List ℕ) (lock_is : lock_now ≡ lock_after lock made) (words_is : words_now ≡ words_after words made) (m_is : m ≡ cost made) (trace_is : trace_now ≡ s.trace ++ t ∷ []) where
            pub after_is : record { code = s.code; threads = length (set threads t z); trace = trace_now } ≡ further s (t ∷ [])
            after_is = λ i. record { code = s.code; threads = (length-set threads t z ∙ sym k.count) i; trace = trace_is i }

            done : IsWorldOf (further s (t ∷ [])) (lock_after lock a) (words_after words a) (set threads t z) (accesses + cost a)
            done = stepped z (ap stops (sym made_is) ∙ on) (next ∙ (λ i. (step_with (effect s.code) (th i) (same_answer i)).thread)) of (counted ∙ (λ i. n i + cost (b i)))

            pub stepped_now : IsWorldOf (record { code = s.code; threads = length (set threads t z); trace = trace_now }) lock_now words_now (set threads t z) (accesses + m)
            stepped_now = subst (λ (v : Simulation × ℕ × List ℕ × ℕ). IsWorldOf v.0 v.1 v.2 (set threads t z) v.3)
                (λ i. (sym after_is i, (ap (lock_after lock) (sym made_is) ∙ sym lock_is) i, (ap (words_after words) (sym made_is) ∙ sym words_is) i, ap (λ c. accesses + c) (ap cost (sym made_is) ∙ sym m_is) i)) done

  -- where no thread has the lock
  pub no_holder : ((u : ℕ) (x : ThreadState) → slice_get threads u ≡ Some x → thread_has_lock x.thread ≡ false) → IsHolder w None
  no_holder none = (unheld (effect s.code) (beginning s.code) (bounds_of s.code) (initial_of s.code) (initial_fits s.code) (fits_cells s.code k.valid) s.threads w heard is_answered has_none, each)
    where
      each : (u : ℕ) (p : Part Configuration) → slice_get w.parts u ≡ Some p → thread_has_lock p.thread ≡ false
      each u p e = let x = thread_here s.code (length s.trace) threads w.parts u p k.threads_are e in subst (λ (th : Thread Configuration). thread_has_lock th ≡ false) x.2 (none u x.0 x.1)

      has_none : (u : ℕ) (p : Part Configuration) (c : Attempt Configuration) → slice_get w.parts u ≡ Some p → HasLock p c → ⊥
      has_none u p c e has = absurd (let f : true ≡ false = sym has.1 ∙ ap attempt_has_lock (sym has.0) ∙ each u p e in cc)

  -- where one has
  pub a_holder : (u : ℕ) (x : ThreadState) → slice_get threads u ≡ Some x → thread_has_lock x.thread ≡ true → IsHolder w (Some u)
  a_holder u x e has = (odd (g.2 g.0 g.1).held, (part.0, part.1, has_it))
    where
      part : (p : Part Configuration) × (slice_get w.parts u ≡ Some p) × IsOfPart s.code (length s.trace) x p
      part = part_here s.code (length s.trace) threads w.parts u x k.threads_are e

      has_it : thread_has_lock part.0.thread ≡ true
      has_it = ap thread_has_lock (sym part.2.thread) ∙ has

      attempt : (o : Option (Attempt Configuration)) → attempt_has_lock o ≡ true → (c : Attempt Configuration) × (o ≡ Some c) × (has_lock c.kept c.phase ≡ true)
      attempt None f = absurd (cc)
      attempt (Some c) f = (c, refl, f)

      g : (es : List Entry) × IsMerge w.parts es × ((fs : List Entry) → IsMerge w.parts fs → IsExplainedBy (meaning (effect s.code) (beginning s.code)) (bounds_of s.code) (initial_of s.code) s.threads w fs)
      g = runs (effect s.code) (beginning s.code) (bounds_of s.code) (initial_of s.code) (initial_fits s.code) (fits_cells s.code k.valid) s.threads w heard is_answered

      odd : {es : List Entry} → IsFree (initial_of s.code) w es ⊎ IsHeld (initial_of s.code) w es → w.lock % 2 ≡ 1
      odd (inl f) = absurd (let c = attempt part.0.thread.attempt has_it in f.nobody u part.0 c.0 part.1 (c.1, c.2))
      odd (inr f) = let l = f.lock in omega arith

-- lists of steps
pub further_none : (s : Simulation) → s ≡ further s []
further_none s = λ i. record s { trace = sym (append-nil s.trace) i }

pub further_more : (s : Simulation) (ts us : List ℕ) → further (further s ts) us ≡ further s (ts ++ us)
further_more s ts us = λ i. record s { trace = append_assoc s.trace ts us i }

-- why a step was not made
pub used_up_by : {X : Type 0} (r : Result Access Stop) (o : Result X Stop) (why : Stop) (m n : Bool) → r ≡ Err why → o ≡ Err why → (r ≡ Err SequenceUsedUp) ↔ (m ≡ true) → n ≡ m → (o ≡ Err SequenceUsedUp) ↔ (n ≡ true)
used_up_by r o why m n is now used same = (
  λ e. same ∙ used.0 (is ∙ ap Err (let f : why ≡ SequenceUsedUp = cc in f)),
  λ e. let f : r ≡ Err SequenceUsedUp = used.1 (sym same ∙ e) in let h : why ≡ SequenceUsedUp = cc in now ∙ ap Err h,
)

-- no thread up to this one has the lock
pub none_more : (xs : List ThreadState) (t : ℕ) (y : ThreadState) → slice_get xs t ≡ Some y → thread_has_lock y.thread ≡ false → ((u : ℕ) (x : ThreadState) → u < t → slice_get xs u ≡ Some x → thread_has_lock x.thread ≡ false)
    → (u : ℕ) (x : ThreadState) → u < t + 1 → slice_get xs u ≡ Some x → thread_has_lock x.thread ≡ false
none_more xs t y here not before u x lt e = at (either)
  where
    either : (u < t) ⊎ (u ≡ t)
    either = grind arith

    at : (u < t) ⊎ (u ≡ t) → thread_has_lock x.thread ≡ false
    at (inl f) = before u x f e
    at (inr f) =
        let same : Some y ≡ Some x = sym here ∙ ap (slice_get xs) (sym f) ∙ e in
        let is : y ≡ x = cc in
        subst (λ (z : ThreadState). thread_has_lock z.thread ≡ false) is not

-- how many threads a world has
pub parts_count : (s : Simulation) → IsExplained s → length (world_of s).parts ≡ s.threads
parts_count s k = (k.code.serializable.each_merge _ k.code.serializable.is_merge).count

-- one step more
pub next_world : (s : Simulation) (t : ℕ) → world_of (further s (t ∷ [])) ≡ step (effect s.code) (world_of s) t
next_world s t = run_more s.code s.trace (t ∷ []) (new_world (beginning s.code) (initial_of s.code) s.threads)

pub next_accesses : (s : Simulation) (t : ℕ) → accesses_of (further s (t ∷ [])) ≡ accesses_of s + cost_at s t
next_accesses s t = accesses_more s.code s.trace t (new_world (beginning s.code) (initial_of s.code) s.threads)

pub one_access : (s : Simulation) (t : ℕ) → cost_at s t ≤ 1
one_access s t = at (part_of s t)
  where
    at : (o : Option (Part Configuration)) → cost_next s.code o ≤ 1
    at None = omega arith
    at (Some p) = at_most_one (access (effect s.code) p.thread)

-- the event of a step is what is shown of it
pub event_shown : (s : Simulation) (t : ℕ) (x : StepShown) → shown_at s t ≡ Some x → x.event ≡ event_at s t
event_shown s t x e = at (part_of s t) e
  where
    at : (o : Option (Part Configuration)) → shown_next s.code (world_of s) o ≡ Some x → x.event ≡ event_next s.code (world_of s) o
    at None f = absurd (cc)
    at (Some p) f = let g : shown_by s.code (world_of s) p ≡ x = cc in ap (λ (z : StepShown). z.event) (sym g)
