-- The attempt of a core as the code of its steps has it, and the invariant of that code.
use Rattle.std.specs.Prelude.{◌≡◌, ◌+◌, ◌^◌, ◌%◌, ◌<◌, ◌≤◌, ℕ, Bool, true, false, Option, None, Some, IfSome}
use Rattle.std.specs.Prelude.{if◌then◌else◌}
use Rattle.write_log.specs.Overlay.{overlay_word}
use Rattle.nesting.specs.Begins.{Saved}
use Rattle.nesting.specs.Nests.{Nest}
use Rattle.norec_core.specs.declared.step.Op.{Op}
use Rattle.norec_core.specs.declared.step.Op.TheVariants as op
use Rattle.norec_core.specs.declared.step.Answer.{Answer}
use Rattle.norec_core.specs.declared.step.OpOutcome.{OpOutcome}
use Rattle.norec_core.specs.declared.step.OpOutcome.TheVariants as outcome
use Rattle.norec_core.specs.declared.step.Phase.{Phase}
use Rattle.norec_core.specs.declared.step.Phase.TheVariants.{AtOperation, ReadsLock, ValidatesTime, ValidatesEntry}
use Rattle.norec_core.specs.declared.step.Phase.TheVariants.{Stores}
use Rattle.norec_core.specs.Attempts.{Attempt}
use Rattle.norec_core.specs.Accesses.{stops}
use Rattle.norec_core.specs.Cores.{MayLog}
use Rattle.norec_core.specs.Phases.{CoreStep, core_access, core_step, core_swap}

-- an attempt, whether it is current, the state set aside, and the spare capacity for inner begins, reads and writes
pub record Run : Type 0 where
  pub begun : Bool
  pub attempt : Attempt Saved
  pub aside : Saved
  pub begin_room : ℕ
  pub read_room : ℕ
  pub write_room : ℕ

-- an attempt by its logs and begins, its first snapshot, its snapshot and its phase
abbrev pub attempt_by : Nest → ℕ → ℕ → Phase → Attempt Saved
attempt_by n first snapshot phase = record {
  saved = n.begins.saved;
  first = first;
  snapshot = snapshot;
  reads = n.reads;
  writes = n.writes;
  inner = n.begins.inner;
  kept = n.kept;
  phase = phase;
}

-- the current attempt
abbrev pub attempt_of : Run → Option (Attempt Saved)
attempt_of r = if r.begun then Some r.attempt else None

-- the outcome and the attempt are those of a step, and the state to return to, if any, is set aside
pub record IsStep (n : CoreStep Saved) (result : OpOutcome) (new : Run) : Type 0 where
  pub attempt : attempt_of new ≡ n.attempt
  pub outcome : result ≡ n.outcome
  pub back : IfSome n.back (λ s. new.aside ≡ s)

-- all but the capacity is unchanged, and no capacity is lost
pub record GainsRoom (old new : Run) : Type 0 where
  pub begun : new.begun ≡ old.begun
  pub attempt : new.attempt ≡ old.attempt
  pub aside : new.aside ≡ old.aside
  pub begin_room : old.begin_room ≤ new.begin_room
  pub read_room : old.read_room ≤ new.read_room
  pub write_room : old.write_room ≤ new.write_room

-- there is capacity for whatever a step of this operation may add
abbrev pub HasRoom : Op → Run → Type 0
HasRoom op.Begin r = 0 < r.begin_room
HasRoom (op.Read cell) r = MayLog r.attempt.phase → 0 < r.read_room
HasRoom (op.Write cell word) r = MayLog r.attempt.phase → 0 < r.write_room
HasRoom _ r = Unit {0}

-- the prepared operation, if its step has not received its response yet
abbrev pub asked_of : Bool → Op → Option Op
asked_of false op = None
asked_of true op = Some op

-- a step was prepared: it has its capacity, and does not stop
abbrev pub IsReadyFor : Option Op → Run → Type 0
IsReadyFor None r = Unit {0}
IsReadyFor (Some op) r = HasRoom op r × (stops (core_access (attempt_of r) op) ≡ false)

-- the attempt is at an operation, and has written this word to the cell
pub record IsWritten (a : Attempt Saved) (cell word : ℕ) : Type 0 where
  pub phase : a.phase ≡ AtOperation
  pub has : overlay_word cell a.writes ≡ Some word

-- the lock, kept or taken, has a value left for its release
abbrev pub CanRelease : ℕ → Type 0
CanRelease snapshot = snapshot + 4 ≤ 2 ^ 64

-- a commit swaps the lock from this value, which is the snapshot
pub record SwapsLock (from : ℕ) (r : Run) : Type 0 where
  pub snapshot : from ≡ r.attempt.snapshot
  pub kept : r.attempt.kept ≡ false
  pub step : (answer : Answer) → core_step r.aside (Some r.attempt) op.Commit answer ≡
      core_swap r.attempt (record r.attempt { phase = Stores 0 }) outcome.Going answer

abbrev pub CanReleaseKept : Bool → ℕ → Type 0
CanReleaseKept true snapshot = CanRelease snapshot
CanReleaseKept false snapshot = Unit {0}

-- an attempt is at an operation, without the lock
abbrev pub IsPlain : (begun kept : Bool) → Phase → Type 0
IsPlain begun kept phase = (begun ≡ true) × (kept ≡ false) × (phase ≡ AtOperation)

-- by phase: a holder of the lock can release it; validation runs without the lock, and at an even lock value
abbrev pub IsStanding : Phase → Bool → ℕ → Type 0
IsStanding AtOperation kept snapshot = CanReleaseKept kept snapshot
IsStanding (ReadsLock word) kept snapshot = kept ≡ false
IsStanding ValidatesTime kept snapshot = kept ≡ false
IsStanding (ValidatesEntry time index) kept snapshot = (kept ≡ false) × (time % 2 ≡ 0)
IsStanding (Stores index) kept snapshot = CanRelease snapshot
