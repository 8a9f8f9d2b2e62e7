-- A thread as code stores it: for each open begin the registers of the top frame, the number of frames and the place.
use Rattle.std.specs.Prelude.{◌≡◌, ◌<◌, ◌≤◌, ℕ, suc, Bool, true, false, List, [], Option, None, Some, length, ◌-◌}
use Rattle.std.specs.Prelude.{string_bytes, string_len, string_capacity}
use Rattle.std.specs.List.{AllByRecursion}
use Rattle.syntax.specs.declared.thread_end.Status.{Status}
use Rattle.syntax.specs.declared.thread_end.Status.TheVariants.{Running, Ended as HasEnded, Trapped as HasTrapped}
use Rattle.nesting.specs.Begins.{Saved}
use Rattle.bytecode.specs.Effects.{Effect}
use Rattle.bytecode.specs.Effects.Effect.{Commit, Cancel, CancelOuter, Print, Pure, Traps}
use Rattle.bytecode.specs.Code.{Code, Configuration, effect}
use Rattle.frames.specs.declared.doing.Doing.{Doing}
use Rattle.frames.specs.declared.doing.Doing.TheVariants as doing
use Rattle.frames.specs.Open.{MayStand, IsConfigurationOf, CanRestore, begin_configuration}
use Rattle.frames.specs.Stack.{HasRoom}
use Rattle.norec_core.specs.declared.step.Access.{Access}
use Rattle.norec_core.specs.Accesses.{cost}
use Rattle.norec_core.specs.declared.step.Op.{Op}
use Rattle.norec_core.specs.declared.step.Op.TheVariants as op
use Rattle.norec_core.specs.declared.step.OpOutcome.{OpOutcome}
use Rattle.norec_core.specs.declared.step.OpOutcome.TheVariants as outcome
use Rattle.norec_core.specs.Attempts.{Attempt}
use Rattle.norec_core.specs.Cores.{CoreState}
use Rattle.norec_core.specs.Saved.{if_some, attempt_as}
use Rattle.machine.specs.declared.event.Event.{Event}
use Rattle.machine.specs.declared.event.Event.TheVariants as event
use Rattle.machine.specs.Answered.{StepsHearing}
use Rattle.machine.specs.Threads.{Thread, Next}
use Rattle.machine.specs.Standing.{begins_of, GivesWordsIf}
use Rattle.machine.specs.States.{Ready}
use Rattle.machine.specs.declared.context.ThreadContext.{ThreadContext}

pub record PlainContext : Type 0 where
  pub configuration : Configuration
  pub core : CoreState
  pub trapping : Bool
  pub text : List ℕ
  pub status : Status

-- the thread's state in the program's own types, and the preparation of its step
abbrev pub context_of : {A : Type 0} → ThreadContext A → PlainContext
context_of t = record {
  configuration = t.frames.configuration;
  core = t.core;
  trapping = t.trapping;
  text = string_bytes t.text;
  status = t.status;
}

abbrev pub ready : {A : Type 0} → ThreadContext A → Ready
ready t = record {
  asked = t.core.asked;
  saved = t.core.saved;
  read_room = t.core.read_room;
  write_room = t.core.write_room;
  call_room = t.frames.room;
  text_room = string_capacity t.text - string_len t.text;
}

-- there is no capacity for the addition of an instruction with this effect: a call's frame, a print's piece
abbrev pub LacksRoom : Code → Configuration → (calls text : ℕ) → Effect Configuration → Type 0
LacksRoom code c calls text (Print piece d) = 0 < length piece → text < length piece
LacksRoom code c calls text (Pure d) = HasRoom code (record { configuration = c; room = calls }) → ⊥
LacksRoom code c calls text _ = ⊥

-- the prepared step costs this many accesses
abbrev pub cost_if : Option Access → ℕ
cost_if None = 0
cost_if (Some x) = cost x

-- an attempt, seen from a configuration
abbrev pub shown_from : Configuration → Option (Attempt Saved) → Option (Attempt Configuration)
shown_from c o = if_some (attempt_as (begin_configuration c)) o

-- the machine's thread that a context denotes
abbrev pub machine_thread : PlainContext → Thread Configuration
machine_thread k = record {
  configuration = k.configuration;
  attempt = shown_from k.configuration k.core.attempt;
  trapping = k.trapping;
  text = k.text;
  status = k.status;
}

-- the frames of all open begins are still there
abbrev pub AreWithin : Configuration → List Saved → Type 0
AreWithin c ss = AllByRecursion (λ (s : Saved). (0 < s.frames) × (s.frames ≤ suc (length c.frames))) ss

-- a running thread, and one that has terminated
pub record RunsInContext (code : Code) (k : PlainContext) : Type 0 where
  pub stands : MayStand code k.configuration (begins_of k.core.attempt)
  pub words : GivesWordsIf k.core.attempt

abbrev pub ContextWith : Code → PlainContext → Status → Type 0
ContextWith code k Running = RunsInContext code k
ContextWith code k HasEnded = k.core.attempt ≡ None
ContextWith code k (HasTrapped cause) = k.core.attempt ≡ None

abbrev pub IsContextOf : Code → PlainContext → Type 0
IsContextOf code k = ContextWith code k k.status

-- the operation requested of the core
abbrev pub op_by : Doing → (kept trapping : Bool) → Option Op
op_by (doing.Begin to) context_of trapping = Some op.Begin
op_by (doing.Read d a) context_of trapping = Some (op.Read a)
op_by (doing.Write a w) context_of trapping = Some (op.Write a w)
op_by doing.Commit context_of trapping = Some op.Commit
op_by doing.Cancel context_of trapping = Some op.Cancel
op_by (doing.CancelOuter n) context_of trapping = Some (op.CancelOuter n)
op_by doing.Irrevocable context_of trapping = Some op.Irrevocable
op_by (doing.Traps cause) true false = None
op_by (doing.Traps cause) true true = Some op.Release
op_by (doing.Traps cause) false trapping = Some op.Release
op_by x context_of trapping = None

abbrev pub op_outside : Doing → Option Op
op_outside (doing.Begin to) = Some op.Begin
op_outside x = None

abbrev pub op_asked : Doing → Option (Attempt Saved) → Bool → Option Op
op_asked x None trapping = op_outside x
op_asked x (Some a) trapping = op_by x a.kept trapping

-- the configuration that the thread returns to after an operation, if any
abbrev pub back_done : Effect Configuration → Configuration → Option Configuration
back_done Cancel c = Some c
back_done (CancelOuter n) c = Some c
back_done _ c = None

abbrev pub back_by : Effect Configuration → OpOutcome → Configuration → Option Configuration
back_by x outcome.Done c = back_done x c
back_by x outcome.Aborted c = Some c
back_by x _ c = None

-- if a thread goes back after an operation, the saved state can be restored, and the thread may be in it
abbrev pub MayGoBack : Code → Configuration → Saved → Option Configuration → Type 0
MayGoBack code c s None = Unit {0}
MayGoBack code c s (Some b) = CanRestore c s × IsConfigurationOf code (begin_configuration c s)

-- the event of an operation, by the remaining attempt
abbrev pub commit_told : Option (Attempt Saved) → Event
commit_told None = event.Commit
commit_told (Some a) = event.Quiet

abbrev pub event_done : Effect Configuration → Option (Attempt Saved) → Event
event_done (Commit c) o = commit_told o
event_done Cancel o = event.Cancel
event_done (CancelOuter n) o = event.Cancel
event_done (Traps cause) o = event.Trap cause
event_done _ o = event.Quiet

abbrev pub event_by : Effect Configuration → OpOutcome → Option (Attempt Saved) → Event
event_by x outcome.Done o = event_done x o
event_by x outcome.Aborted o = event.Abort
event_by x _ o = event.Quiet

-- a step of the thread has this event, and leaves the thread that the machine's step does
pub record Makes (code : Code) (n : Next Configuration) (k : PlainContext) (e : Event) : Type 0 where
  pub thread : machine_thread k ≡ n.thread
  pub event : e ≡ n.event
  pub of : IsContextOf code k
  pub within : AreWithin k.configuration (begins_of k.core.attempt)

-- n local steps lead from one context to another
pub record Advances (code : Code) (k : PlainContext) (n : ℕ) (l : PlainContext) : Type 0 where
  pub steps : StepsHearing (effect code) (machine_thread k) n [] (machine_thread l)
  pub of : IsContextOf code l
  pub within : AreWithin l.configuration (begins_of l.core.attempt)
