-- The report of a run finds each thread by its number, and what stopped its loop.
use Rattle.std.proofs.Common.{◌≡◌, ◌≢◌, ◌⊎◌, inl, inr, ℕ, zero, suc, ◌==◌, ◌<◌, Bool, true, false, List, [], ◌∷◌, Some, slice_get, refl, sym, ap, ◌∙◌, subst}
use Rattle.std.specs.Prelude.{None}
use Rattle.std.specs.List.{find}
use Rattle.std.specs.Option.{option_or}
use Rattle.std.specs.Global.{Global}
use Rattle.std.proofs.lemmas.Bool.{eq-eqb, eqb-true}
use Rattle.std.proofs.lemmas.List.Folds.{find-append}
use mathlib.Core.Option.{some-ne-none, some-injective}
use Rattle.atomic_table.specs.Seated.{TableId}
use Rattle.bytecode.specs.Code.{Configuration, effect}
use Rattle.bytecode.proofs.Tables.{some_same}
use Rattle.machine.specs.Answered.{Heard, StepsHearing}
use Rattle.machine.specs.States.{first_thread}
use Rattle.machine.specs.Threads.{Thread}
use Rattle.machine.specs.Worlds.{Part, World}
use Rattle.shared_words.specs.Setup.{Setup}
use Rattle.workers.specs.Closing.{AreThere, HasWorkerFor, NoWorker, finished_back}
use Rattle.workers.specs.Driving.{AreEnded, EndsBy, Ran}
use Rattle.workers.specs.Workers.{AreWorkersOf}
use Rattle.workers.specs.declared.close.Finished.{Finished}
use Rattle.workers.specs.declared.run.Ending.{Ending}
use Rattle.workers.specs.declared.run.RunReport.{RunReport}
use Rattle.workers.specs.declared.worker.Worker.{Worker}
use Rattle.syntax.specs.Behaviours.{Behaviour}
use Rattle.serving.specs.Runs.{IsConcurrentThread, end_of_run, thread_of_run}

apart : (a b : ℕ) → (a == b) ≡ false → a ≢ b
apart a b e same = let t : true ≡ false = sym (eq-eqb a b same) ∙ e in cc

module _ (z : TableId) (key : Setup) (w : World Configuration) (heard : List (List Heard)) (n : ℕ) where
  -- this thread is the world's thread with this number
  abbrev pub IsThread : Finished Global → Type 0
  IsThread f = (part : Part Configuration) × (slice_get w.parts n ≡ Some part) × (part.thread ≡ f.thread.thread)

  -- this many steps have led the world's thread with this number to where its loop ended in this way
  abbrev pub IsEnding : ℕ → Ending → Type 0
  IsEnding all e = (part : Part Configuration) × (slice_get w.parts n ≡ Some part) × (steps : ℕ) × (answers : List Heard)
      × StepsHearing (effect key.code) (first_thread key.code n) steps answers part.thread
      × EndsBy e.stopped key.code part.thread all steps

  none_here : NoWorker {A = Global} [] n
  none_here k x e = absurd (some-ne-none x (sym e))

  none_more : (x : Worker Global) (xs : List (Worker Global)) → x.number ≢ n → NoWorker xs n → NoWorker (x ∷ xs) n
  none_more x xs other none zero y e same = other (ap (λ (v : Worker Global). v.number) (some-injective x y e) ∙ same)
  none_more x xs other none (suc k) y e same = none k y e same

  thread_found : (ws : List (Worker Global)) (are : AreWorkersOf z key ws) → AreThere z key w heard ws are →
      (NoWorker ws n × (find (λ (f : Finished Global). f.number == n) (finished_back ws) ≡ None))
      ⊎ ((f : Finished Global) × (find (λ (f : Finished Global). f.number == n) (finished_back ws) ≡ Some f) × IsThread f)
  thread_found [] are there = inl (none_here, refl)
  thread_found (x ∷ xs) are there = in_front (thread_found xs are.1 there.2)
    where
      test : Finished Global → Bool
      test f = f.number == n

      this : Finished Global
      this = record { number = x.number; thread = x.thread; steps = x.steps; tally = x.tally }

      parted : find test (finished_back (x ∷ xs)) ≡ option_or (find test (finished_back xs)) (find test (this ∷ []))
      parted = find-append test (finished_back xs) (this ∷ [])

      at_end : (b : Bool) → (x.number == n) ≡ b → NoWorker xs n → find test (finished_back xs) ≡ None →
          (NoWorker (x ∷ xs) n × (find test (finished_back (x ∷ xs)) ≡ None))
          ⊎ ((f : Finished Global) × (find test (finished_back (x ∷ xs)) ≡ Some f) × IsThread f)
      at_end false e none nowhere = inl (none_more x xs (apart x.number n e) none, parted ∙ rw nowhere (rw e refl))
      at_end true e none nowhere =
          inr (this, parted ∙ rw nowhere (rw e refl), (are.0.1.now, ap (slice_get w.parts) (sym (eqb-true x.number n e)) ∙ there.0, are.0.1.thread_is))

      in_front : (NoWorker xs n × (find test (finished_back xs) ≡ None))
          ⊎ ((f : Finished Global) × (find test (finished_back xs) ≡ Some f) × IsThread f) →
          (NoWorker (x ∷ xs) n × (find test (finished_back (x ∷ xs)) ≡ None))
          ⊎ ((f : Finished Global) × (find test (finished_back (x ∷ xs)) ≡ Some f) × IsThread f)
      in_front (inr (f, e, is)) = inr (f, parted ∙ rw e refl, is)
      in_front (inl (none, nowhere)) = at_end (x.number == n) refl none nowhere

  ending_found : (all : ℕ) (ws : List (Worker Global)) (es : List Ending) (are : AreWorkersOf z key ws) → AreThere z key w heard ws are → AreEnded key all ws es →
      NoWorker ws n ⊎ ((e : Ending) × (find (λ (e : Ending). e.number == n) es ≡ Some e) × IsEnding all e)
  ending_found all [] [] are there ended = inl none_here
  ending_found all [] (e ∷ es) are there ended = absurd ended
  ending_found all (x ∷ xs) [] are there ended = absurd ended
  ending_found all (x ∷ xs) (e ∷ es) are there ended = by (e.number == n) refl (ending_found all xs es are.1 there.2 ended.1)
    where
      Here : List (Worker Global) → List Ending → Type 0
      Here ys fs = NoWorker ys n ⊎ ((f : Ending) × (find (λ (f : Ending). f.number == n) fs ≡ Some f) × IsEnding all f)

      later : (e.number == n) ≡ false → Here xs es → Here (x ∷ xs) (e ∷ es)
      later is (inl none) = inl (none_more x xs (λ same. apart e.number n is (ended.0.0 ∙ same)) none)
      later is (inr found) = inr (found.0, rw is found.1, found.2)

      by : (b : Bool) → (e.number == n) ≡ b → Here xs es → Here (x ∷ xs) (e ∷ es)
      by true is rest =
          let same : x.number ≡ n = sym ended.0.0 ∙ eqb-true e.number n is in
          let works = are.0.1 in
          inr (
            e,
            rw is refl,
            (
              works.now,
              ap (slice_get w.parts) (sym same) ∙ there.0,
              x.steps,
              works.part.heard,
              subst (λ (k : ℕ). StepsHearing (effect key.code) (first_thread key.code k) x.steps works.part.heard works.now.thread) same
                  (subst (λ t. StepsHearing (effect key.code) (first_thread key.code x.number) x.steps works.part.heard t) (sym works.thread_is) works.replays),
              subst (λ t. EndsBy e.stopped key.code t all x.steps) (sym works.thread_is) ended.0.1,
            ),
          )
      by false is rest = later is rest

  here : (ws : List (Worker Global)) → HasWorkerFor ws n → NoWorker ws n → ⊥
  here ws (k, x, at, is) none = none k x at is

-- a report shows of a thread of the run its part in the world, and why its loop ended
pub thread_shown : (does : Behaviour) (key : Setup) (budget : ℕ) (r : RunReport Global) (ran : Ran does key budget r) (n : ℕ) → n < key.threads → IsConcurrentThread key.code ran.closes.world budget n (thread_of_run r n)
thread_shown does key budget r ran n lt = joined (thread_found z key w hs n ran.workers ran.are ran.closes.there) (ending_found z key w hs n budget ran.workers r.ends.items ran.are ran.closes.there ran.ends)
  where
    z : TableId
    z = ran.table

    w : World Configuration
    w = ran.closes.world

    hs : List (List Heard)
    hs = ran.closes.heard

    worker : HasWorkerFor ran.workers n
    worker = ran.here n lt

    joined : (NoWorker ran.workers n × (find (λ (f : Finished Global). f.number == n) (finished_back ran.workers) ≡ None))
        ⊎ ((f : Finished Global) × (find (λ (f : Finished Global). f.number == n) (finished_back ran.workers) ≡ Some f) × IsThread z key w hs n f) →
        NoWorker ran.workers n ⊎ ((e : Ending) × (find (λ (e : Ending). e.number == n) r.ends.items ≡ Some e) × IsEnding z key w hs n budget e) →
        IsConcurrentThread key.code w budget n (thread_of_run r n)
    joined (inl none) e = absurd (here z key w hs n ran.workers worker none.0)
    joined (inr f) (inl none) = absurd (here z key w hs n ran.workers worker none)
    joined (inr f) (inr e) =
        let other : Part Configuration = e.2.0 in
        let same : other ≡ f.2.0 = some_same other f.2.0 (sym e.2.1 ∙ f.2.1) in
        let found : find (λ (f : Finished Global). f.number == n) r.threads.items ≡ Some f.0 = ap (find (λ (f : Finished Global). f.number == n)) ran.closes.threads_are ∙ f.1 in
        record {
          part = other;
          there = e.2.1;
          steps = e.2.2;
          answers = e.2.3;
          makes = e.2.4;
          stopped = e.0.stopped;
          because = e.2.5;
          shows = rw (e.1, found) (ap (λ (t : Thread Configuration). record { end = end_of_run t.status e.0.stopped; text = t.text }) (sym f.2.2 ∙ ap (λ (p : Part Configuration). p.thread) (sym same)));
        }
