-- The report of a run of all threads at once, or of a replay that leaves the lock free, is that of a run of the source.
use Rattle.std.proofs.Common.{◌≡◌, ◌≢◌, ◌⊎◌, inl, inr, ℕ, zero, suc, ◌<◌, ◌==◌, ◌+◌, ◌-◌, ◌*◌, ◌%◌, Bool, true, false, ◌||◌, List, [], ◌∷◌, ◌++◌, Option, Some, None, map, length, slice_get, refl, sym, ap, ap₂, ◌∙◌, subst, arith, append-nil}
use Rattle.std.specs.List.{list_any}
use Rattle.std.specs.Prelude.{unwrap_or, if◌then◌else◌}
use Rattle.std.specs.Global.{Global}
use Rattle.std.proofs.lemmas.List.{length_push}
use Rattle.std.proofs.lemmas.Option.{slice_get_within}
use mathlib.Core.Option.{some, some-ne-none, some-injective}
use lib.ListN.{get_elem?}
use Rattle.atomic_table.specs.Seated.{TableId}
use Rattle.syntax.specs.declared.thread_end.Halt.TheVariants.{Trapped}
use Rattle.syntax.specs.declared.thread_end.Status.{Status}
use Rattle.syntax.specs.declared.thread_end.Status.TheVariants.{Running, Ended as HasEnded, Trapped as HasTrapped}
use Rattle.syntax.specs.Tree.{Program}
use Rattle.syntax.specs.Names.{globals, initial_from, initial_memory}
use Rattle.syntax.specs.Behaviours as Behaviours
use Rattle.syntax.specs.Behaviours.{Memory, Step, IsRun, Stands, founds_of, lefts_of, last_memory}
use Rattle.syntax.specs.Threads.{thread}
use Rattle.bytecode.specs.Beginning.{beginning}
use Rattle.bytecode.specs.Code.{Code, Configuration, effect}
use Rattle.bytecode.specs.Initial.{initial_of}
use Rattle.norec_core.specs.declared.step.Stop.{Stop}
use Rattle.norec_core.specs.declared.step.Stop.TheVariants as stop
use Rattle.machine.specs.Answered.{Heard}
use Rattle.machine.specs.Explained.{IsFree, IsHeld}
use Rattle.machine.specs.Merges.{Entry, run_of, count_takers}
use Rattle.machine.specs.Serializable.{merge_after}
use Rattle.machine.specs.Standing.{IsStanding, IsThreadOf}
use Rattle.machine.specs.States.{attempt_has_lock, thread_has_lock}
use Rattle.machine.specs.Threads.{Thread}
use Rattle.machine.specs.Worlds.{Part, World}
use Rattle.shared_words.specs.Setup.{Setup}
use Rattle.workers.specs.Closing.{AreThere, NoneHolds}
use Rattle.workers.specs.Driving.{IsMemoryOf}
use Rattle.workers.specs.Workers.{AreWorkersOf}
use Rattle.workers.specs.declared.run.RunMemory.{RunMemory}
use Rattle.workers.specs.declared.run.RunMemory.TheVariants.{LockHeld, Words}
use Rattle.workers.specs.declared.run.RunReport.{RunReport}
use Rattle.workers.specs.declared.worker.Worker.{Worker}
use Rattle.world.specs.declared.report.WorldEnd.{WorldEnd}
use Rattle.world.specs.declared.stop.StopReason.{StopReason}
use Rattle.world.specs.declared.stop.StopReason.TheVariants as reason
use Rattle.world.specs.declared.stop.WorldStop.{WorldStop}
use Rattle.world.specs.Reports.{end_by, end_of, end_with, parts_shown}
use Rattle.world.specs.Simulations.{IsHolder, world_of}
use Rattle.replay.specs.declared.line.Line.{Line}
use Rattle.replay.specs.Replays.{simulation_after}
use Rattle.report.specs.declared.printed.End.{End}
use Rattle.report.specs.Printed.{ThreadShown, Printed}
use Rattle.serving.specs.Replays.{IsReplayOf, end_after_replay, thread_found}
use Rattle.serving.specs.Reports.{has_stopped, is_stopped}
use Rattle.serving.specs.Runs.{IsConcurrentRun, end_of_run, globals_left, held_by, thread_of_run, threads_of_run}
use Rattle.serving.specs.Shows.{order_end, shown_globals, thread_shown}
use Rattle.serving.specs.inner.Serial.{IsSerial}
use Rattle.serving.proofs.Inside.{over_outside}

-- ---- the threads of a report, by their numbers

get_here : {X : Type 0} (xs : List X) (y : X) → slice_get (xs ++ y ∷ []) (length xs) ≡ Some y
get_here [] y = refl
get_here (x ∷ xs) y = get_here xs y

get_before : {X : Type 0} (xs : List X) (y : X) (i : ℕ) → i < length xs → slice_get (xs ++ y ∷ []) i ≡ slice_get xs i
get_before [] y i lt = absurd (omega arith)
get_before (x ∷ xs) y zero lt = refl
get_before (x ∷ xs) y (suc i) lt = get_before xs y i (omega arith)

length_all : (r : RunReport Global) (k : ℕ) → length (threads_of_run r k) ≡ k
length_all r zero = refl
length_all r (suc k) =
    let e : length (threads_of_run r (suc k)) ≡ length (threads_of_run r k) + 1 = length_push (threads_of_run r k) (thread_of_run r k) in
    let ih : length (threads_of_run r k) ≡ k = length_all r k in
    omega (arith, e, ih)

-- the number after this one, and this many further on
abbrev beyond : ℕ → ℕ → ℕ
beyond zero t = suc t
beyond (suc j) t = suc (beyond j t)

beyond_is : (j t : ℕ) → beyond j t ≡ j + suc t
beyond_is zero t = omega arith
beyond_is (suc j) t = let ih : beyond j t ≡ j + suc t = beyond_is j t in omega (arith, ih)

thread_after : (r : RunReport Global) (j t : ℕ) → slice_get (threads_of_run r (beyond j t)) t ≡ Some (thread_of_run r t)
thread_after r zero t = ap (slice_get (threads_of_run r (suc t))) (sym (length_all r t)) ∙ get_here (threads_of_run r t) (thread_of_run r t)
thread_after r (suc j) t =
    let l : length (threads_of_run r (beyond j t)) ≡ beyond j t = length_all r (beyond j t) in
    let b : beyond j t ≡ j + suc t = beyond_is j t in
    get_before (threads_of_run r (beyond j t)) (thread_of_run r (beyond j t)) t (omega (arith, l, b)) ∙ thread_after r j t

thread_at : (r : RunReport Global) (k t : ℕ) → t < k → slice_get (threads_of_run r k) t ≡ Some (thread_of_run r t)
thread_at r k t lt =
    let b : beyond (k - suc t) t ≡ k - suc t + suc t = beyond_is (k - suc t) t in
    let e : beyond (k - suc t) t ≡ k = omega (arith, lt, b) in
    subst (λ n. slice_get (threads_of_run r n) t ≡ Some (thread_of_run r t)) e (thread_after r (k - suc t) t)

pub same_some : {X : Type 0} (x y : X) → Some x ≡ Some y → x ≡ y
same_some x y e = ap (λ (o : Option _). unwrap_or o x) e

-- what is shown of a thread: an end and a text
abbrev as_shown : List ℕ → End → ThreadShown
as_shown text end = record { end = end; text = text }

-- ---- none of them is stopped

or_no : (a b : Bool) → (a || b) ≡ false → (a ≡ false) × (b ≡ false)
or_no true b e = absurd (cc)
or_no false b e = (refl, e)

pub any_no : {X : Type 0} (p : X → Bool) (xs : List X) (i : ℕ) (x : X) → list_any p xs ≡ false → slice_get xs i ≡ Some x → p x ≡ false
any_no p [] i x none at = absurd (cc)
any_no p (y ∷ ys) zero x none at = let is : y ≡ x = cc in ap p (sym is) ∙ (or_no (p y) (list_any p ys) none).0
any_no p (y ∷ ys) (suc i) x none at = any_no p ys i x (or_no (p y) (list_any p ys) none).1 at

-- ---- a thread that has terminated does in the run what is shown of it

module _ (p : Program) (m0 : Memory) (run : List Step) (t : ℕ) (text : List ℕ) where
  abbrev DoesSo : ThreadShown → Type 0
  DoesSo shown = (n : ℕ) × ((thread p t (founds_of t run) n).lefts ≡ lefts_of t run) × (shown ≡ thread_shown (thread p t (founds_of t run) n))

  over : (status : Status) → Stands (thread p) m0 run t text status → status ≢ Running → DoesSo (as_shown text (end_after_replay (end_of status)))
  over HasEnded s is =
      let e : founds_of t run ++ s.extra ≡ founds_of t run = ap (λ x. founds_of t run ++ x) s.end.1 ∙ append-nil (founds_of t run) in (
        s.ticks,
        subst (λ f. (thread p t f s.ticks).lefts ≡ lefts_of t run) e s.lefts,
        ap₂ (λ (x : End) (y : List ℕ). as_shown y x) (ap order_end (sym (subst (λ f. (thread p t f s.ticks).end ≡ Behaviours.Ended) e s.end.0)))
            (sym (subst (λ f. (thread p t f s.ticks).text ≡ text) e s.text)),
      )
  over (HasTrapped k) s is =
      let e : founds_of t run ++ s.extra ≡ founds_of t run = ap (λ x. founds_of t run ++ x) s.end.1 ∙ append-nil (founds_of t run) in (
        s.ticks,
        subst (λ f. (thread p t f s.ticks).lefts ≡ lefts_of t run) e s.lefts,
        ap₂ (λ (x : End) (y : List ℕ). as_shown y x) (ap order_end (sym (subst (λ f. (thread p t f s.ticks).end ≡ Behaviours.Stopped (Trapped k)) e s.end.0)))
            (sym (subst (λ f. (thread p t f s.ticks).text ≡ text) e s.text)),
      )
  over Running s is = absurd (is refl)

-- a thread of the code is in a run of the program, with the text that is shown
stands_so : (p : Program) (code : Code) (run : List Step) (t : ℕ) (printed text : List ℕ) (status : Status) → initial_of code ≡ initial_memory p → printed ≡ text → Stands (thread p) (initial_of code) run t printed status → Stands (thread p) (initial_memory p) run t text status
stands_so p code run t printed text status same is s =
    subst (λ m. Stands (thread p) m run t text status) same (subst (λ x. Stands (thread p) (initial_of code) run t x status) is s)

-- the end that is shown of a terminated thread after a run of all threads
over_in_run : (s : Status) (stopped : Option Stop) → is_stopped (end_of_run s stopped) ≡ false → (s ≢ Running) × (end_of_run s stopped ≡ end_after_replay (end_of s))
over_in_run Running None still = absurd (cc)
over_in_run Running (Some stop.OutOfMemory) still = absurd (cc)
over_in_run Running (Some stop.SequenceUsedUp) still = absurd (cc)
over_in_run HasEnded stopped still = (λ e. absurd (cc), refl)
over_in_run (HasTrapped k) stopped still = (λ e. absurd (cc), refl)

-- and after a replay
over_found : (s : Status) → is_stopped (end_after_replay (end_of s)) ≡ false → s ≢ Running
over_found Running still e = absurd (cc)
over_found HasEnded still e = absurd (cc)
over_found (HasTrapped k) still e = absurd (cc)

over_by : (u : ℕ × StopReason) (s : Status) (b : Bool) → is_stopped (end_after_replay (if b then end_by u.1 s else end_of s)) ≡ false → (if b then end_by u.1 s else end_of s) ≡ end_of s
over_by u s false still = refl
over_by u s true still = of u.1 still
  where
    of : (r : StopReason) → is_stopped (end_after_replay (end_by r s)) ≡ false → end_by r s ≡ end_of s
    of reason.OutOfMemory still = absurd (cc)
    of reason.SequenceUsedUp still = absurd (cc)
    of reason.Stranger still = refl

over_with : (o : Option (ℕ × StopReason)) (t : ℕ) (s : Status) → is_stopped (end_after_replay (end_with o t s)) ≡ false → (s ≢ Running) × (end_with o t s ≡ end_of s)
over_with None t s still = (over_found s still, refl)
over_with (Some u) t s still =
    let e : end_with (Some u) t s ≡ end_of s = over_by u s (u.0 == t) still in
    (over_found s (subst (λ (x : WorldEnd). is_stopped (end_after_replay x) ≡ false) e still), e)

-- ---- the lock

-- a thread that has terminated has no attempt
free_by : (code : Code) (th : Thread Configuration) (s : Status) → IsStanding code th s → s ≢ Running → th.attempt ≡ None
free_by code th Running i over = absurd (over refl)
free_by code th HasEnded i over = i
free_by code th (HasTrapped k) i over = i

over_is_free : (code : Code) (th : Thread Configuration) → IsThreadOf code th → th.status ≢ Running → thread_has_lock th ≡ false
over_is_free code th i over = ap attempt_has_lock (free_by code th th.status i.stands over)

module _ (z : TableId) (key : Setup) (w : World Configuration) (heard : List (List Heard)) where
  -- a worker's thread is the world's
  thread_there : (ws : List (Worker Global)) (all : AreWorkersOf z key ws) → AreThere z key w heard ws all → (k : ℕ) (x : Worker Global) → get_elem? ws k ≡ some x
      → (p : Part Configuration) × (slice_get w.parts x.number ≡ Some p) × (p.thread ≡ x.thread.thread) × IsThreadOf key.code x.thread.thread
  thread_there [] all t k x e = absurd (some-ne-none x (sym e))
  thread_there (y ∷ ys) all t zero x e =
      subst (λ (v : Worker Global). (p : Part Configuration) × (slice_get w.parts v.number ≡ Some p) × (p.thread ≡ v.thread.thread) × IsThreadOf key.code v.thread.thread) (some-injective y x e)
      (all.0.1.now, t.0, all.0.1.thread_is, all.0.1.of_code)
  thread_there (y ∷ ys) all t (suc k) x e = thread_there ys all.1 t.2 k x e

  -- if all threads have terminated, no worker has the lock
  nobody : (ws : List (Worker Global)) (all : AreWorkersOf z key ws) → AreThere z key w heard ws all → ((n : ℕ) (p : Part Configuration) → slice_get w.parts n ≡ Some p → p.thread.status ≢ Running) → NoneHolds ws
  nobody ws all t over k x e =
      let at = thread_there ws all t k x e in
      over_is_free key.code x.thread.thread at.3 (subst (λ (th : Thread Configuration). th.status ≢ Running) at.2 (over x.number at.0 at.1))

-- ---- the words

pub free_words : (m0 : Memory) (w : World Configuration) (es : List Entry) → w.lock % 2 ≡ 0 → IsFree m0 w es ⊎ IsHeld m0 w es → w.words ≡ last_memory m0 (run_of es)
free_words m0 w es even (inl f) = f.words
free_words m0 w es even (inr h) = let l : w.lock ≡ 2 * count_takers es + 1 = h.lock in absurd (omega (arith, l, even))

holder_is : (m : RunMemory) (ws : List (Worker Global)) (cells : List ℕ) → IsMemoryOf m ws cells → NoneHolds ws → held_by m ≡ None
holder_is (Words v) ws cells is nobody = refl
holder_is (LockHeld n) ws cells is nobody = let f : true ≡ false = sym is.4 ∙ nobody is.0 is.1 is.2 in absurd (cc)

globals_are : (p : Program) (m : RunMemory) (ws : List (Worker Global)) (cells last : List ℕ) → IsMemoryOf m ws cells → NoneHolds ws → cells ≡ last → globals_left p m ≡ shown_globals (globals p) last
globals_are p (Words v) ws cells last is nobody words = ap (shown_globals (globals p)) (is.0 ∙ words)
globals_are p (LockHeld n) ws cells last is nobody words = let f : true ≡ false = sym is.4 ∙ nobody is.0 is.1 is.2 in absurd (cc)

-- ---- a run of all threads at once

-- if the words are reported, no worker has the lock
none_holds : (m : RunMemory) (ws : List (Worker Global)) (cells : List ℕ) → IsMemoryOf m ws cells → held_by m ≡ None → NoneHolds ws
none_holds (Words v) ws cells is free = is.1
none_holds (LockHeld n) ws cells is free = let f : Some n ≡ None = free in absurd (cc)

module _ (p : Program) (code : Code) (threads budget : ℕ) (shown : Printed) (r : IsConcurrentRun p code threads budget shown) where
  all_shown : shown.threads ≡ threads_of_run r.report threads
  all_shown = ap (λ (s : Printed). s.threads) r.shows

  counted : length shown.threads ≡ threads
  counted = ap length all_shown ∙ length_all r.report threads

  within : (t : ℕ) (this : ThreadShown) → slice_get shown.threads t ≡ Some this → t < threads
  within t this at =
      let lt : t < length shown.threads = slice_get_within shown.threads t this at in
      let c : length shown.threads ≡ threads = counted in
      omega (arith, c, lt)

  -- the parts shown of a thread are those that the run reports of it
  is_reported : (t : ℕ) (this : ThreadShown) → slice_get shown.threads t ≡ Some this → thread_of_run r.report t ≡ this
  is_reported t this at = same_some _ this (sym (ap (λ ts. slice_get ts t) all_shown ∙ thread_at r.report threads t (within t this at)) ∙ at)

  pub no_run_events : shown.events ≡ None
  no_run_events = ap (λ (s : Printed). s.events) r.shows

  -- if all threads have terminated, none has the lock
  pub free_run : has_stopped shown ≡ false → shown.holder ≡ None
  free_run none =
      ap (λ (s : Printed). s.holder) r.shows
      ∙ holder_is r.report.memory r.ran.workers r.ran.cells r.ran.memory (nobody r.ran.table _ w r.ran.closes.heard r.ran.workers r.ran.are r.ran.closes.there over_there)
    where
      w : World Configuration
      w = r.ran.closes.world

      still : (t : ℕ) → t < threads → is_stopped (thread_of_run r.report t).end ≡ false
      still t lt = any_no (λ (s : ThreadShown). is_stopped s.end) (threads_of_run r.report threads) t (thread_of_run r.report t)
          (ap (list_any (λ (s : ThreadShown). is_stopped s.end)) (sym all_shown) ∙ none) (thread_at r.report threads t lt)

      over_there : (n : ℕ) (q : Part Configuration) → slice_get w.parts n ≡ Some q → q.thread.status ≢ Running
      over_there n q here =
          let count : length w.parts ≡ threads = (r.ran.program r.ran.closes.runs.entries r.ran.closes.runs.is_merge).count in
          let inside : n < length w.parts = slice_get_within w.parts n q here in
          let lt : n < threads = omega (arith, count, inside) in
          let is : (r.each n lt).part ≡ q = same_some _ q (sym (r.each n lt).there ∙ here) in
          let o = over_in_run _ _ (ap (λ (s : ThreadShown). is_stopped s.end) (sym (r.each n lt).shows) ∙ still n lt) in
          subst (λ (y : Part Configuration). y.thread.status ≢ Running) is o.0

  pub serial_run : code.globals ≡ globals p → shown.holder ≡ None → IsSerial p threads shown
  serial_run compiled free =
      let w : World Configuration = r.ran.closes.world in
      let es : List Entry = r.ran.closes.runs.entries in
      let x = r.ran.program es r.ran.closes.runs.is_merge in
      let same : initial_of code ≡ initial_memory p = ap initial_from compiled in
      let none : NoneHolds r.ran.workers = none_holds r.report.memory r.ran.workers r.ran.cells r.ran.memory (sym (ap (λ (s : Printed). s.holder) r.shows) ∙ free) in
      record {
        run = run_of es;
        is_run = subst (λ m. IsRun (thread p) threads m (run_of es)) same x.is_run;
        count = counted;
        each = λ t this at quiet.
            let i = r.each t (within t this at) in
            let is : thread_of_run r.report t ≡ this = is_reported t this at in
            let still = over_in_run _ _ (ap (λ (s : ThreadShown). is_stopped s.end) (sym i.shows ∙ is) ∙ quiet) in
            let o = over p (initial_of code) (run_of es) t i.part.thread.text i.part.thread.status (x.standing t i.part i.there) still.0 in
            (o.0, o.1, sym is ∙ i.shows ∙ ap (as_shown i.part.thread.text) still.1 ∙ o.2);
        prints = λ t this at.
            let i = r.each t (within t this at) in
            let text : i.part.thread.text ≡ this.text = ap (λ (s : ThreadShown). s.text) (sym i.shows ∙ is_reported t this at) in (
              i.part.thread.status,
              stands_so p code (run_of es) t _ this.text _ same text (x.standing t i.part i.there),
            );
        globals =
            ap (λ (s : Printed). s.globals) r.shows
            ∙ globals_are p r.report.memory r.ran.workers r.ran.cells (last_memory (initial_memory p) (run_of es)) r.ran.memory none
            (sym r.ran.closes.cells_are ∙ free_words (initial_of code) w es (r.ran.closes.even r.ran.here none) x.held ∙ ap (λ m. last_memory m (run_of es)) same);
      }

-- ---- a replay

-- a thread with this number, as it is shown
abbrev shown_as : Option (ℕ × StopReason) → ℕ → Part Configuration → ThreadShown
shown_as o n q = as_shown q.thread.text (end_after_replay (end_with o n q.thread.status))

-- each thread that is shown is a part of the world, and each part is shown
part_shown : (o : Option (ℕ × StopReason)) (b : ℕ) (ps : List (Part Configuration)) (t : ℕ) (this : ThreadShown) → slice_get (map thread_found (parts_shown o b ps)) t ≡ Some this →
    (q : Part Configuration) × (slice_get ps t ≡ Some q) × (n : ℕ) × (this ≡ shown_as o n q)
part_shown o b [] t this e = absurd (cc)
part_shown o b (q ∷ ps) zero this e = (q, refl, b, sym (same_some (shown_as o b q) this e))
part_shown o b (q ∷ ps) (suc t) this e = part_shown o (suc b) ps t this e

shown_part : (o : Option (ℕ × StopReason)) (b : ℕ) (ps : List (Part Configuration)) (t : ℕ) (q : Part Configuration) → slice_get ps t ≡ Some q →
    (n : ℕ) × (slice_get (map thread_found (parts_shown o b ps)) t ≡ Some (shown_as o n q))
shown_part o b [] t q e = absurd (cc)
shown_part o b (r ∷ ps) zero q e = (b, ap (λ (x : Part Configuration). Some (shown_as o b x)) (same_some r q e))
shown_part o b (r ∷ ps) (suc t) q e = shown_part o (suc b) ps t q e

count_shown : (o : Option (ℕ × StopReason)) (b : ℕ) (ps : List (Part Configuration)) → length (map thread_found (parts_shown o b ps)) ≡ length ps
count_shown o b [] = refl
count_shown o b (q ∷ ps) = ap suc (count_shown o (suc b) ps)

pub serial_replay : (p : Program) (code : Code) (threads : ℕ) (found : List Line) (made : List ℕ) (stopped : Option WorldStop) (shown : Printed) → code.globals ≡ globals p → IsReplayOf p code threads found made stopped shown → shown.holder ≡ None → IsSerial p threads shown
serial_replay p code threads found made stopped shown compiled r free =
    let w : World Configuration = world_of (simulation_after code threads made) in
    let es : List Entry = merge_after (effect code) (beginning code) (initial_of code) threads made in
    let same : initial_of code ≡ initial_memory p = ap initial_from compiled in
    let x = r.explained.serializable.each_merge es r.explained.serializable.is_merge in
    let all : shown.threads ≡ map thread_found (parts_shown r.stop 0 w.parts) = ap (λ (s : Printed). s.threads) r.shows in
    let holder : IsHolder w None = subst (IsHolder w) free r.holder in
    record {
      run = run_of es;
      is_run = subst (λ m. IsRun (thread p) threads m (run_of es)) same x.is_run;
      count = ap length all ∙ count_shown r.stop 0 w.parts ∙ x.count;
      each = λ t this at quiet.
          let q = part_shown r.stop 0 w.parts t this (ap (λ ts. slice_get ts t) (sym all) ∙ at) in
          let still = over_with r.stop q.2 q.0.thread.status (ap (λ (s : ThreadShown). is_stopped s.end) (sym q.3) ∙ quiet) in
          let o = over p (initial_of code) (run_of es) t q.0.thread.text q.0.thread.status (x.standing t q.0 q.1) still.0 in
          (o.0, o.1, q.3 ∙ ap (λ (e : WorldEnd). as_shown q.0.thread.text (end_after_replay e)) still.1 ∙ o.2);
      prints = λ t this at.
          let q = part_shown r.stop 0 w.parts t this (ap (λ ts. slice_get ts t) (sym all) ∙ at) in
          (q.0.thread.status, stands_so p code (run_of es) t _ this.text _ same (sym (ap (λ (s : ThreadShown). s.text) q.3)) (x.standing t q.0 q.1));
      globals =
          ap (λ (s : Printed). s.globals) r.shows
          ∙ ap (shown_globals (globals p)) (free_words (initial_of code) w es holder.0 x.held ∙ ap (λ m. last_memory m (run_of es)) same);
    }

-- if all threads of a replay have terminated, none has the lock
pub free_replay : (p : Program) (code : Code) (threads : ℕ) (found : List Line) (made : List ℕ) (stopped : Option WorldStop) (shown : Printed) → IsReplayOf p code threads found made stopped shown → has_stopped shown ≡ false → shown.holder ≡ None
free_replay p code threads found made stopped shown r none = by shown.holder refl
  where
    w : World Configuration
    w = world_of (simulation_after code threads made)

    by : (o : Option ℕ) → shown.holder ≡ o → shown.holder ≡ None
    by None e = e
    by (Some t) e =
        let h : IsHolder w (Some t) = subst (IsHolder w) e r.holder in
        let at = shown_part r.stop 0 w.parts t h.1.0 h.1.1 in
        let all : shown.threads ≡ map thread_found (parts_shown r.stop 0 w.parts) = ap (λ (s : Printed). s.threads) r.shows in
        let this : slice_get shown.threads t ≡ Some (shown_as r.stop at.0 h.1.0) = ap (λ ts. slice_get ts t) all ∙ at.1 in
        let still = over_with r.stop at.0 h.1.0.thread.status (any_no (λ (s : ThreadShown). is_stopped s.end) shown.threads t (shown_as r.stop at.0 h.1.0) none this) in
        let gone : h.1.0.thread.attempt ≡ None = over_outside (effect code) (beginning code) (initial_of code) threads made t h.1.0 h.1.1 still.0 in
        let f : true ≡ false = sym h.1.2 ∙ ap attempt_has_lock gone in
        absurd (cc)
