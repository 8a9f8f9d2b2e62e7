-- The meaning of an event for the step that reports it.
use Rattle.std.specs.Prelude.{◌≡◌, ◌≢◌, ◌↔◌, ◌⊎◌, ℕ, ◌-◌, drop, false, [], Option, None, Some}
use Rattle.std.specs.List.{slice_get}
use Rattle.syntax.specs.declared.thread_end.Trap.{Trap}
use Rattle.syntax.specs.declared.thread_end.Status.TheVariants.{Running, Trapped as HasTrapped}
use Rattle.bytecode.specs.Effects.{Effect}
use Rattle.bytecode.specs.Effects.Effect.{Commit, Cancel, CancelOuter}
use Rattle.norec_core.specs.Attempts.{Attempt}
use Rattle.machine.specs.declared.event.Event.TheVariants as event
use Rattle.machine.specs.Threads.{Thread, Next, access, step_with}
use Rattle.machine.specs.Worlds.{Part, World, answer}

-- the instruction cancels one or more transactions: inner ones, or the outermost one without the lock kept
abbrev pub Cancels : {C : Type 0} → Effect C → Option (Attempt C) → Type 0
Cancels Cancel (Some a) = (a.kept ≡ false) ⊎ (a.inner ≢ [])
Cancels (CancelOuter n) (Some a) = (a.kept ≡ false) ⊎ (drop (n - 1) a.inner ≢ [])
Cancels _ _ = ⊥

-- a step of a thread at this instruction, and the event that it reports
pub record EventTells {C : Type 0} (x : Effect C) (th : Thread C) (n : Next C) : Type 0 where
  -- an abort: the attempt no longer exists, and nothing took effect
  pub aborts : (n.event ≡ event.Abort) ↔ ((th.attempt ≢ None) × (n.thread.attempt ≡ None) × (n.completed ≡ None))
  -- a commit: a transaction took effect at a commit
  pub commits : (n.event ≡ event.Commit) ↔ ((n.completed ≢ None) × ((c : C) × (x ≡ Commit c)))
  pub cancels : (n.event ≡ event.Cancel) ↔ Cancels x th.attempt
  -- a trap: the thread was running, and has trapped
  pub traps : (cause : Trap) →
      (n.event ≡ event.Trap cause) ↔ ((th.status ≡ Running) × (n.thread.status ≡ HasTrapped cause))

-- every possible next step of a thread of the world, and the event that it reports
abbrev pub EventsTell : {C : Type 0} → (C → Effect C) → World C → Type 0
EventsTell {C} code w = (t : ℕ) (p : Part C) → slice_get w.parts t ≡ Some p →
    EventTells (code p.thread.configuration) p.thread
    (step_with code p.thread (answer w.lock w.words (access code p.thread)))
