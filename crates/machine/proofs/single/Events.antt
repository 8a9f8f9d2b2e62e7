-- What an event says of the step that it is told of.
use Rattle.std.proofs.Common.{◌≡◌, ◌-◌, ◌≢◌, ◌==◌, ◌%◌, ◌⊎◌, inl, inr, ℕ, Bool, true, false, cond, List, [], ◌∷◌, Option, None, Some, refl, sym, ◌∙◌, ap, subst, drop}
use Rattle.syntax.specs.declared.thread_end.Trap.{Trap}
use Rattle.syntax.specs.declared.thread_end.Status.{Status}
use Rattle.syntax.specs.declared.thread_end.Status.TheVariants.{Running, Ended as HasEnded, Trapped as HasTrapped}
use Rattle.syntax.specs.Behaviours.{IsMemory}
use Rattle.bytecode.specs.Effects.{Effect, FitsCells}
use Rattle.bytecode.specs.Effects.Effect.{Pure, Print, Begin, Read, Write, Commit, Cancel, CancelOuter, Irrevocable, Traps, End}
use Rattle.norec_core.specs.declared.step.Op.{Op}
use Rattle.norec_core.specs.declared.step.Op.TheVariants as op
use Rattle.norec_core.specs.declared.step.Answer.{Answer}
use Rattle.norec_core.specs.declared.step.Answer.TheVariants.{Done, Value, Won, Lost}
use Rattle.norec_core.specs.declared.step.OpOutcome.{OpOutcome}
use Rattle.norec_core.specs.declared.step.OpOutcome.TheVariants as outcome
use Rattle.norec_core.specs.declared.step.Phase.{Phase}
use Rattle.norec_core.specs.declared.step.Phase.TheVariants.{AtOperation, ReadsLock, ValidatesTime, ValidatesEntry, Stores}
use Rattle.norec_core.specs.Attempts.{Attempt, Checkpoint, Completed}
use Rattle.norec_core.specs.Phases.{CoreStep, core_begin, core_cancel, core_phase, idle, on_snapshot}
use Rattle.norec_core.proofs.OutcomesOfSteps.{Comes, comes}
use Rattle.norec_core.proofs.OutcomesOfSteps.Comes.{goes_on, completes, drops}
use Rattle.machine.specs.declared.event.Event.{Event}
use Rattle.machine.specs.declared.event.Event.TheVariants as event
use Rattle.machine.specs.Events.{Cancels, EventTells, EventsTell}
use Rattle.machine.specs.inner.Invariant.{History, InHand, Invariant, Now, Validates}
use Rattle.machine.specs.Serializable.{world_after}
use Rattle.machine.specs.Threads.{Thread, done_event, event_of, op_of, print_inside, quiet, resume_next, status_after, step_with, told_inside, told_of, told_outside, told_running}
use Rattle.machine.specs.Worlds.{new_world, run}
use Rattle.machine.proofs.runs.Serializable.{new_invariant, start_of}
use Rattle.machine.proofs.steps.Worlds.{run_invariant}

-- an instruction that cancels one level or several
abbrev IsCancel : {C : Type 0} → Effect C → Type 0
IsCancel Cancel = Unit {0}
IsCancel (CancelOuter levels) = Unit {0}
IsCancel _ = ⊥

-- where each event comes from
data ComesFrom {C : Type 0} (x : Effect C) (p : OpOutcome) (completed : Option Completed) : Event → Type 0 where
  silent : ComesFrom x p completed event.Quiet
  aborted : p ≡ outcome.Aborted → ComesFrom x p completed event.Abort
  committed : (c : C) → x ≡ Commit c → p ≡ outcome.Done → (completed ≡ None → ⊥) → ComesFrom x p completed event.Commit
  cancelled : IsCancel x → p ≡ outcome.Done → ComesFrom x p completed event.Cancel
  trapped : (cause : Trap) → x ≡ Traps cause → p ≡ outcome.Done → ComesFrom x p completed (event.Trap cause)

module _ {C : Type 0} where
  commit_from : (c : C) (completed : Option Completed) → ComesFrom (Commit c) outcome.Done completed (done_event (Commit c) completed)
  commit_from c None = silent
  commit_from c (Some x) = committed c refl refl (λ e. cc)

  done_from : (x : Effect C) (completed : Option Completed) → ComesFrom x outcome.Done completed (done_event x completed)
  done_from (Commit c) completed = commit_from c completed
  done_from Cancel completed = cancelled tt refl
  done_from (CancelOuter levels) completed = cancelled tt refl
  done_from (Traps cause) completed = trapped cause refl refl
  done_from x completed = silent

  from : (x : Effect C) (p : OpOutcome) (completed : Option Completed) → ComesFrom x p completed (event_of x p completed)
  from x outcome.Going completed = silent
  from x outcome.Done completed = done_from x completed
  from x (outcome.Read v) completed = silent
  from x outcome.Aborted completed = aborted refl

  abort_from : (x : Effect C) (p : OpOutcome) (completed : Option Completed) (e : Event) → ComesFrom x p completed e → e ≡ event.Abort → p ≡ outcome.Aborted
  abort_from x p completed e (aborted g) f = g
  abort_from x p completed e _ f = absurd (cc)

  commits_from : (x : Effect C) (p : OpOutcome) (completed : Option Completed) (e : Event) → ComesFrom x p completed e → e ≡ event.Commit → (completed ≡ None → ⊥) × ((c : C) × (x ≡ Commit c))
  commits_from x p completed e (committed c g h n) f = (n, (c, g))
  commits_from x p completed e _ f = absurd (cc)

  cancel_from : (x : Effect C) (p : OpOutcome) (completed : Option Completed) (e : Event) → ComesFrom x p completed e → e ≡ event.Cancel → IsCancel x × (p ≡ outcome.Done)
  cancel_from x p completed e (cancelled g h) f = (g, h)
  cancel_from x p completed e _ f = absurd (cc)

  trap_from : (x : Effect C) (p : OpOutcome) (completed : Option Completed) (e : Event) (cause : Trap) → ComesFrom x p completed e → e ≡ event.Trap cause → (x ≡ Traps cause) × (p ≡ outcome.Done)
  trap_from x p completed e cause (trapped why g h) f = let same : why ≡ cause = cc in (g ∙ ap Traps same, h)
  trap_from x p completed e cause _ f = absurd (cc)

  is_cancelled : (x : Effect C) (completed : Option Completed) → IsCancel x → done_event x completed ≡ event.Cancel
  is_cancelled Cancel completed c = refl
  is_cancelled (CancelOuter levels) completed c = refl
  is_cancelled x completed c = absurd c

  -- a step leaves a running thread trapped where its instruction traps and is done
  status_from : (p : OpOutcome) (x : Effect C) (cause : Trap) → status_after p x Running ≡ HasTrapped cause → (x ≡ Traps cause) × (p ≡ outcome.Done)
  status_from outcome.Done (Traps why) cause e = let same : why ≡ cause = cc in (ap Traps same, refl)
  status_from p x cause e = absurd (cc)

  is_commit : (c : C) (completed : Option Completed) → (completed ≡ None → ⊥) → event_of (Commit c) outcome.Done completed ≡ event.Commit
  is_commit c None n = absurd (n refl)
  is_commit c (Some x) n = refl

  -- a step of the thread's own: it keeps the attempt, and a running thread is not trapped by it
  quietly : (x : Effect C) (th u : Thread C) → u.attempt ≡ th.attempt → ((cause : Trap) → th.status ≡ Running → u.status ≡ HasTrapped cause → ⊥) → (Cancels x th.attempt → ⊥) → EventTells x th (quiet u)
  quietly x th u same calm still = record {
    aborts = (λ e. absurd (cc), λ r. absurd (r.0 (sym same ∙ r.1)));
    commits = (λ e. absurd (cc), λ r. absurd (r.0 refl));
    cancels = (λ e. absurd (cc), λ r. absurd (still r));
    traps = λ cause. (λ e. absurd (cc), λ r. absurd (calm cause r.0 r.1));
  }

  -- an instruction of a transaction, by what comes of it
  module _ (code : C → Effect C) (th : Thread C) (a : Attempt C) (here : th.attempt ≡ Some a) (running : th.status ≡ Running) (x : Effect C) where
    resumes : (n : CoreStep C) → Comes n → (IsCancel x → n.outcome ≡ outcome.Done → Cancels x th.attempt) → (Cancels x th.attempt → IsCancel x × (n.outcome ≡ outcome.Done)) → EventTells x th (resume_next code th x n)
    resumes n k cancels stands = record {
      aborts = (λ e. dropped k (abort_from x n.outcome n.completed _ made e), λ r. ap (λ p. event_of {C = C} x p n.completed) (gone k r.1 r.2));
      commits = (λ e. commits_from x n.outcome n.completed _ made e, λ r. ap (λ y. event_of {C = C} y n.outcome n.completed) r.1.1 ∙ ap (λ p. event_of (Commit r.1.0) p n.completed) (done k r.0) ∙ is_commit r.1.0 n.completed r.0);
      cancels = (λ e. let f = cancel_from x n.outcome n.completed _ made e in cancels f.0 f.1, λ r. let f = stands r in ap (λ p. event_of {C = C} x p n.completed) f.1 ∙ is_cancelled x n.completed f.0);
      traps = λ cause. (
        λ e. let f = trap_from x n.outcome n.completed _ cause made e in (running, ap (λ y. status_after {C = C} n.outcome y th.status) f.0 ∙ ap (λ p. status_after {C = C} p (Traps cause) th.status) f.1),
        λ r. let f = status_from n.outcome x cause (ap (status_after n.outcome x) (sym running) ∙ r.1) in ap (λ y. event_of {C = C} y n.outcome n.completed) f.0 ∙ ap (λ p. event_of {C = C} (Traps cause) p n.completed) f.1,
      );
    }
      where
        made : ComesFrom x n.outcome n.completed (event_of x n.outcome n.completed)
        made = from x n.outcome n.completed

        dropped : Comes n → n.outcome ≡ outcome.Aborted → (th.attempt ≢ None) × (n.attempt ≡ None) × (n.completed ≡ None)
        dropped (goes_on b at none still) e = absurd (still e)
        dropped (completes y at some is) e = absurd (cc)
        dropped (drops at none is) e = (λ f. cc, at, none)

        gone : Comes n → n.attempt ≡ None → n.completed ≡ None → n.outcome ≡ outcome.Aborted
        gone (goes_on b at none still) e f = absurd (cc)
        gone (completes y at some is) e f = absurd (cc)
        gone (drops at none is) e f = is

        done : Comes n → (n.completed ≡ None → ⊥) → n.outcome ≡ outcome.Done
        done (goes_on b at none still) f = absurd (f none)
        done (completes y at some is) f = is
        done (drops at none is) f = absurd (f none)

    -- any instruction but a cancel
    plainly : (n : CoreStep C) → Comes n → (IsCancel x → ⊥) → (Cancels x th.attempt → ⊥) → EventTells x th (resume_next code th x n)
    plainly n k other still = resumes n k (λ e. absurd (other e)) (λ r. absurd (still r))

  -- a cancel
  cancel_done : (a : Attempt C) (inner : List (Checkpoint C)) (kept : Bool) → (core_cancel a inner kept).outcome ≡ outcome.Done → (kept ≡ false) ⊎ (inner ≢ [])
  cancel_done a [] false g = inl refl
  cancel_done a [] true g = absurd (cc)
  cancel_done a (l ∷ ls) kept g = inr (λ h. cc)

  done_cancel : (a : Attempt C) (inner : List (Checkpoint C)) (kept : Bool) → (kept ≡ false) ⊎ (inner ≢ []) → (core_cancel a inner kept).outcome ≡ outcome.Done
  done_cancel a [] false g = refl
  done_cancel a [] true (inl g) = absurd (cc)
  done_cancel a [] true (inr g) = absurd (g refl)
  done_cancel a (l ∷ ls) kept g = refl

  module _ (code : C → Effect C) (th : Thread C) (y : Answer) where
    module _ (a : Attempt C) (here : th.attempt ≡ Some a) (running : th.status ≡ Running) where
      abbrev step : Op → CoreStep C
      step o = core_phase th.configuration a a.phase o y

      at_cancel : a.phase ≡ AtOperation → EventTells Cancel th (resume_next code th Cancel (step op.Cancel))
      at_cancel rests =
          let is : step op.Cancel ≡ core_cancel a a.inner a.kept = ap (λ (q : Phase). core_phase th.configuration a q op.Cancel y) rests in
          resumes code th a here running Cancel (step op.Cancel) (comes th.configuration a a.phase op.Cancel y)
          (λ e d. subst (Cancels Cancel) (sym here) (cancel_done a a.inner a.kept (ap (λ (n : CoreStep C). n.outcome) (sym is) ∙ d)))
          (λ r. (tt, ap (λ (n : CoreStep C). n.outcome) is ∙ done_cancel a a.inner a.kept (subst (Cancels Cancel) here r)))

      at_outer_cancel : (levels : ℕ) → a.phase ≡ AtOperation → EventTells (CancelOuter levels) th (resume_next code th (CancelOuter levels) (step (op.CancelOuter levels)))
      at_outer_cancel levels rests =
          let left : List (Checkpoint C) = drop (levels - 1) a.inner in
          let is : step (op.CancelOuter levels) ≡ core_cancel a left a.kept = ap (λ (q : Phase). core_phase th.configuration a q (op.CancelOuter levels) y) rests in
          resumes code th a here running (CancelOuter levels) (step (op.CancelOuter levels)) (comes th.configuration a a.phase (op.CancelOuter levels) y)
          (λ e d. subst (Cancels (CancelOuter levels)) (sym here) (cancel_done a left a.kept (ap (λ (n : CoreStep C). n.outcome) (sym is) ∙ d)))
          (λ r. (tt, ap (λ (n : CoreStep C). n.outcome) is ∙ done_cancel a left a.kept (subst (Cancels (CancelOuter levels)) here r)))

      trap_tells : (cause : Trap) (kept trapping : Bool) → EventTells (Traps cause) th (told_inside code th a (Traps cause) (op_of {C = C} (Traps cause) kept trapping) y)
      trap_tells cause true false = quietly (Traps cause) th _ refl (λ c e f. absurd (cc)) (λ r. r)
      trap_tells cause true true = plainly code th a here running (Traps cause) (step op.Release) (comes th.configuration a a.phase op.Release y) (λ e. e) (λ r. r)
      trap_tells cause false trapping = plainly code th a here running (Traps cause) (step op.Release) (comes th.configuration a a.phase op.Release y) (λ e. e) (λ r. r)

      print_tells : (piece : List ℕ) (c : C) (kept : Bool) → EventTells (Print piece c) th (print_inside th piece c kept)
      print_tells piece c true = quietly (Print piece c) th _ refl (λ k e f. absurd (cc)) (λ r. r)
      print_tells piece c false = quietly (Print piece c) th _ refl (λ k e f. absurd (cc)) (λ r. r)

      inside_tells : (x : Effect C) → (IsCancel x → a.phase ≡ AtOperation) → EventTells x th (told_inside code th a x (op_of x a.kept th.trapping) y)
      inside_tells (Pure c) rests = quietly (Pure c) th _ refl (λ k e f. absurd (cc)) (λ r. r)
      inside_tells (Print piece c) rests = print_tells piece c a.kept
      inside_tells (Traps cause) rests = trap_tells cause a.kept th.trapping
      inside_tells End rests = quietly End th _ refl (λ k e f. absurd (cc)) (λ r. r)
      inside_tells (Begin c d) rests = plainly code th a here running (Begin c d) (step op.Begin) (comes th.configuration a a.phase op.Begin y) (λ e. e) (λ r. r)
      inside_tells (Read ad k) rests = plainly code th a here running (Read ad k) (step (op.Read ad)) (comes th.configuration a a.phase (op.Read ad) y) (λ e. e) (λ r. r)
      inside_tells (Write ad v c) rests = plainly code th a here running (Write ad v c) (step (op.Write ad v)) (comes th.configuration a a.phase (op.Write ad v) y) (λ e. e) (λ r. r)
      inside_tells (Commit c) rests = plainly code th a here running (Commit c) (step op.Commit) (comes th.configuration a a.phase op.Commit y) (λ e. e) (λ r. r)
      inside_tells Cancel rests = at_cancel (rests tt)
      inside_tells (CancelOuter levels) rests = at_outer_cancel levels (rests tt)
      inside_tells (Irrevocable c) rests = plainly code th a here running (Irrevocable c) (step op.Irrevocable) (comes th.configuration a a.phase op.Irrevocable y) (λ e. e) (λ r. r)

    -- outside transactions
    module _ (none : th.attempt ≡ None) where
      no_cancel : (x : Effect C) → Cancels x None → ⊥
      no_cancel Cancel r = r
      no_cancel (CancelOuter levels) r = r
      no_cancel x r = r

      still : (x : Effect C) → Cancels x th.attempt → ⊥
      still x r = no_cancel x (subst (Cancels x) none r)

      begin_tells : (c d : C) (n : CoreStep C) → n.completed ≡ None → event_of (Begin c d) n.outcome n.completed ≡ event.Quiet → EventTells (Begin c d) th (resume_next code th (Begin c d) n)
      begin_tells c d n co q = record {
        aborts = (λ e. absurd (let f = sym q ∙ e in cc), λ r. absurd (r.0 none));
        commits = (λ e. absurd (let f = sym q ∙ e in cc), λ r. absurd (r.0 co));
        cancels = (λ e. absurd (let f = sym q ∙ e in cc), λ r. absurd (still (Begin c d) r));
        traps = λ cause. (λ e. absurd (let f = sym q ∙ e in cc), λ r. let f = status_from n.outcome (Begin c d) cause (ap (status_after n.outcome (Begin c d)) (sym r.0) ∙ r.1) in let g = f.0 in absurd (cc));
      }

      abbrev new : ℕ → Attempt C
      new lock = record { saved = th.configuration; first = lock; snapshot = lock; reads = []; writes = []; inner = []; kept = false; phase = AtOperation }

      begins : (c d : C) (z : Answer) → EventTells (Begin c d) th (resume_next code th (Begin c d) (core_begin th.configuration z))
      begins c d (Value lock) = at (lock % 2 == 0)
        where
          at : (b : Bool) → EventTells (Begin c d) th (resume_next code th (Begin c d) (cond b (on_snapshot (new lock) outcome.Done) idle))
          at true = begin_tells c d (on_snapshot (new lock) outcome.Done) refl refl
          at false = begin_tells c d idle refl refl
      begins c d Done = begin_tells c d idle refl refl
      begins c d Won = begin_tells c d idle refl refl
      begins c d (Lost n) = begin_tells c d idle refl refl

      trapped_outside : (cause : Trap) → th.status ≡ Running → EventTells (Traps cause) th (told_running code th (Traps cause) y)
      trapped_outside cause s = record {
        aborts = (λ e. absurd (cc), λ r. absurd (r.0 none));
        commits = (λ e. absurd (cc), λ r. absurd (r.0 refl));
        cancels = (λ e. absurd (cc), λ r. absurd (still (Traps cause) r));
        traps = λ k. (λ e. let same : cause ≡ k = cc in (s, ap HasTrapped same), λ r. let f = r.1 in let same : cause ≡ k = cc in ap event.Trap same);
      }

      outside_tells : (s : Status) → th.status ≡ s → (x : Effect C) → EventTells x th (told_outside code th s x y)
      outside_tells Running s (Pure c) = quietly (Pure c) th _ refl (λ k e f. absurd (cc)) (still (Pure c))
      outside_tells Running s (Print piece c) = quietly (Print piece c) th _ refl (λ k e f. absurd (cc)) (still (Print piece c))
      outside_tells Running s (Begin c d) = begins c d y
      outside_tells Running s (Irrevocable c) = quietly (Irrevocable c) th _ refl (λ k e f. absurd (cc)) (still (Irrevocable c))
      outside_tells Running s (Traps cause) = trapped_outside cause s
      outside_tells Running s End = quietly End th _ refl (λ k e f. absurd (cc)) (still End)
      outside_tells Running s (Read ad k) = quietly (Read ad k) th _ refl (λ q e f. absurd (cc)) (still (Read ad k))
      outside_tells Running s (Write ad v c) = quietly (Write ad v c) th _ refl (λ k e f. absurd (cc)) (still (Write ad v c))
      outside_tells Running s (Commit c) = quietly (Commit c) th _ refl (λ k e f. absurd (cc)) (still (Commit c))
      outside_tells Running s Cancel = quietly Cancel th _ refl (λ k e f. absurd (cc)) (still Cancel)
      outside_tells Running s (CancelOuter levels) = quietly (CancelOuter levels) th _ refl (λ k e f. absurd (cc)) (still (CancelOuter levels))
      outside_tells HasEnded s x = quietly x th _ refl (λ k e f. absurd (cc)) (still x)
      outside_tells (HasTrapped why) s x = quietly x th _ refl (λ k e f. absurd (cc)) (still x)

    told_tells : ((a : Attempt C) → th.attempt ≡ Some a → (th.status ≡ Running) × (IsCancel (code th.configuration) → a.phase ≡ AtOperation)) → EventTells (code th.configuration) th (step_with code th y)
    told_tells ok = at th.attempt refl
      where
        at : (o : Option (Attempt C)) → th.attempt ≡ o → EventTells (code th.configuration) th (told_of code th o (code th.configuration) y)
        at None e = outside_tells e th.status refl (code th.configuration)
        at (Some a) e = inside_tells a e (ok a e).0 (code th.configuration) (ok a e).1

  -- at a cancel an attempt has no word in hand
  not_validated : (x : Effect C) → IsCancel x → Validates x → ⊥
  not_validated Cancel e v = v
  not_validated (CancelOuter levels) e v = v
  not_validated x e v = e

  rests : (code : C → Effect C) (h : History) (a : Attempt C) (c : C) (q : Phase) → InHand code h a c q → IsCancel (code c) → q ≡ AtOperation
  rests code h a c AtOperation hand e = refl
  rests code h a c (ReadsLock v) hand e = absurd (subst IsCancel hand.2 e)
  rests code h a c ValidatesTime hand e = absurd (not_validated (code c) e hand.1)
  rests code h a c (ValidatesEntry time i) hand e = absurd (not_validated (code c) e hand.5)
  rests code h a c (Stores i) hand e = absurd (subst IsCancel hand.1.1 e)

module _ {C : Type 0} (code : C → Effect C) (init : ℕ → C) (bounds : List ℕ) (m0 : List ℕ) (is_memory : IsMemory bounds m0) (fits : FitsCells code bounds) where
  pub tell : (threads : ℕ) (ts : List ℕ) → EventsTell code (world_after code init m0 threads ts)
  tell threads ts t p here = told_tells code p.thread _ (λ a e. at p.thread.attempt e (r.1.parts t p here).now)
    where
      r : (h : History) × Invariant code bounds init m0 h (run code ts (new_world init m0 threads))
      r = run_invariant code bounds init m0 fits ts (new_world init m0 threads) (start_of m0) (new_invariant code init bounds m0 is_memory threads)

      at : {a : Attempt C} (o : Option (Attempt C)) → o ≡ Some a → Now code bounds r.0 t (init t) p.records p.base p.thread o → (p.thread.status ≡ Running) × (IsCancel (code p.thread.configuration) → a.phase ≡ AtOperation)
      at None e n = absurd (cc)
      at {a} (Some b) e n =
          let same : b ≡ a = cc in
          (n.steady.running, λ f. subst (λ (c : Attempt C). c.phase ≡ AtOperation) same (rests code r.0 b p.thread.configuration b.phase n.in_hand f))
