-- The state that a begin saves, under a map: an attempt whose begins save less shows as one whose begins save all.
use Rattle.std.specs.Prelude.{◌≡◌, Option, None, Some, map}
use Rattle.norec_core.specs.declared.step.Op.{Op}
use Rattle.norec_core.specs.declared.step.Answer.{Answer}
use Rattle.norec_core.specs.Attempts.{Checkpoint, Attempt}
use Rattle.norec_core.specs.Phases.{CoreStep, core_access, core_step}

-- an optional value, under a map
abbrev pub if_some : {S T : Type 0} → (S → T) → Option S → Option T
if_some f None = None
if_some f (Some s) = Some (f s)

-- an inner begin, an attempt and a step, under a map of the state that a begin saves
abbrev pub checkpoint_as : {S T : Type 0} → (S → T) → Checkpoint S → Checkpoint T
checkpoint_as f k = record { saved = f k.saved; writes = k.writes }

abbrev pub attempt_as : {S T : Type 0} → (S → T) → Attempt S → Attempt T
attempt_as f a = record {
  saved = f a.saved;
  first = a.first;
  snapshot = a.snapshot;
  reads = a.reads;
  writes = a.writes;
  inner = map (checkpoint_as f) a.inner;
  kept = a.kept;
  phase = a.phase;
}

abbrev pub core_step_as : {S T : Type 0} → (S → T) → CoreStep S → CoreStep T
core_step_as f n = record {
  attempt = if_some (attempt_as f) n.attempt;
  outcome = n.outcome;
  back = if_some f n.back;
  completed = n.completed;
  sets_snapshot = n.sets_snapshot;
}

-- a step of the core does the same, whatever a begin saves
pub record Commutes {S T : Type 0} (f : S → T) : Type 0 where
  pub access : (o : Option (Attempt S)) (op : Op) → core_access (if_some (attempt_as f) o) op ≡ core_access o op
  pub step : (now : S) (o : Option (Attempt S)) (op : Op) (answer : Answer) →
      core_step (f now) (if_some (attempt_as f) o) op answer ≡ core_step_as f (core_step now o op answer)
