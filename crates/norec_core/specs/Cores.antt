-- A core as its contracts see it.
use Rattle.std.specs.Prelude.{◌≡◌, ℕ, Bool, true, false, Option, None, Some, IfSome, IsSomeAnd}
use Rattle.std.specs.List.{slice_get}
use Rattle.write_log.specs.Overlay.{overlay_word}
use Rattle.norec_core.specs.declared.step.Op.{Op}
use Rattle.norec_core.specs.declared.step.Op.TheVariants as op
use Rattle.norec_core.specs.declared.step.Access.TheVariants.{Local}
use Rattle.norec_core.specs.declared.step.Answer.{Answer}
use Rattle.norec_core.specs.declared.step.Answer.TheVariants.{Done}
use Rattle.norec_core.specs.declared.step.OpOutcome.{OpOutcome}
use Rattle.norec_core.specs.declared.step.OpOutcome.TheVariants as outcome
use Rattle.norec_core.specs.declared.step.Phase.{Phase}
use Rattle.norec_core.specs.declared.step.Phase.TheVariants.{AtOperation, ReadsLock, ValidatesTime, ValidatesEntry}
use Rattle.norec_core.specs.declared.step.Phase.TheVariants.{Stores}
use Rattle.nesting.specs.Begins.{Saved}
use Rattle.norec_core.specs.Attempts.{Attempt}
use Rattle.norec_core.specs.Accesses.{IsAnswerTo}
use Rattle.norec_core.specs.Phases.{CoreStep, core_access, core_step, commit_access, idle}

pub record CoreState : Type 0 where
  pub attempt : Option (Attempt Saved)  -- the current attempt, if any
  pub asked : Option Op  -- the prepared operation, which has not received its response yet
  pub saved : Saved  -- the state that the prepared begin saves, or that the last cancel or abort returns to
  pub read_room : ℕ  -- the spare capacity of the read log, in entries
  pub write_room : ℕ  -- the spare capacity of the write log, in pairs

-- an operation was prepared, and the response is one to its access
abbrev pub IsAnswered : CoreState → Answer → Type 0
IsAnswered c answer = IsSomeAnd c.asked (λ op. IsAnswerTo (core_access c.attempt op) answer)

-- the prepared step, with the response to its access
abbrev pub stepped_by : CoreState → Option Op → Answer → CoreStep Saved
stepped_by c None answer = idle
stepped_by c (Some op) answer = core_step c.saved c.attempt op answer

abbrev pub core_step_with : CoreState → Answer → CoreStep Saved
core_step_with c answer = stepped_by c c.asked answer

-- a current operation may yet add to a log: the attempt is at it, or a read has its word
abbrev pub MayLog : Phase → Type 0
MayLog AtOperation = Unit {0}
MayLog (ReadsLock word) = Unit {0}
MayLog _ = ⊥

-- the step of this operation may allocate: a begin; or a read or a write that may yet log, if its log has no spare
-- capacity. No step of validation does, no store and no release
abbrev pub MayWantRoom : (read_room write_room : ℕ) → Option (Attempt Saved) → Op → Type 0
MayWantRoom reads writes o op.Begin = Unit {0}
MayWantRoom reads writes o (op.Read cell) = (reads ≡ 0) × IfSome o (λ a. MayLog a.phase)
MayWantRoom reads writes o (op.Write cell word) = (writes ≡ 0) × IfSome o (λ a. MayLog a.phase)
MayWantRoom reads writes o _ = ⊥

-- a read of this cell loads its word and then the lock
abbrev pub LoadsBoth : {S : Type 0} → Attempt S → ℕ → Type 0
LoadsBoth a cell = (a.phase ≡ AtOperation) × (a.kept ≡ false) × (overlay_word cell a.writes ≡ None)

-- an attempt is at an operation, and does not have the lock
abbrev pub IsUnlocked : {S : Type 0} → Attempt S → Type 0
IsUnlocked a = (a.phase ≡ AtOperation) × (a.kept ≡ false)

-- a commit makes no access: that of an inner transaction, or of one that wrote nothing; it does not have the lock
abbrev pub CommitsLocally : {S : Type 0} → Attempt S → Type 0
CommitsLocally a =
    (a.phase ≡ AtOperation) × (a.kept ≡ false) × (commit_access a a.inner a.kept a.writes ≡ Local)

-- a commit next stores the pair at this index of the write log, or after the last pair the lock
abbrev pub IsStoring : {S : Type 0} → ℕ → Attempt S → Type 0
IsStoring index a = a.phase ≡ Stores index

-- two steps of an operation, with the responses to their accesses
abbrev pub stepped_twice : CoreState → Op → (first second : Answer) → CoreStep Saved
stepped_twice c op first second = core_step c.saved (core_step c.saved c.attempt op first).attempt op second

-- a step without an access, which completes the operation with this outcome and does not go back
pub record IsDoneLocally (c : CoreState) (op : Op) (result : OpOutcome) (d : CoreState) : Type 0 where
  pub access : core_access c.attempt op ≡ Local
  pub attempt : d.attempt ≡ (core_step c.saved c.attempt op Done).attempt
  pub outcome : (core_step c.saved c.attempt op Done).outcome ≡ result
  pub back : (core_step c.saved c.attempt op Done).back ≡ None

-- whether there is a current attempt whose lock is kept
abbrev pub is_kept : Option (Attempt Saved) → Bool
is_kept None = false
is_kept (Some a) = a.kept

-- whether the attempt has the lock: it is kept, or a commit stores
abbrev pub holds_lock : (kept : Bool) → Phase → Bool
holds_lock kept (Stores i) = true
holds_lock kept _ = kept

-- whether there is a current attempt that has the lock
abbrev pub has_lock : Option (Attempt Saved) → Bool
has_lock None = false
has_lock (Some a) = holds_lock a.kept a.phase

-- validation next loads the lock, until it is even
abbrev pub IsWaiting : {S : Type 0} → Attempt S → Type 0
IsWaiting a = a.phase ≡ ValidatesTime

-- validation at this lock value next compares the entry at this index of the read log, or after the last one the lock
abbrev pub IsComparing : {S : Type 0} → (time index : ℕ) → Attempt S → Type 0
IsComparing time index a = a.phase ≡ ValidatesEntry time index

-- validation at this lock value next compares this entry of the read log, the one at this index; none after the last
-- entry
abbrev pub ComparesWith : {S : Type 0} → (time index : ℕ) → Option (ℕ × ℕ) → Attempt S → Type 0
ComparesWith time index entry a = IsComparing time index a × (slice_get a.reads index ≡ entry)

-- the step with this response, whichever operation is requested: the operation continues, and does not go back
pub record IsAskedAgain (c : CoreState) (answer : Answer) (op : Op) (d : CoreState) : Type 0 where
  pub attempt : d.attempt ≡ (core_step c.saved c.attempt op answer).attempt
  pub outcome : (core_step c.saved c.attempt op answer).outcome ≡ outcome.Going
  pub back : (core_step c.saved c.attempt op answer).back ≡ None

-- the step with this response aborts the attempt, and the state to return to is saved
pub record IsDropped (c : CoreState) (answer : Answer) (op : Op) (d : CoreState) : Type 0 where
  pub attempt : d.attempt ≡ (core_step c.saved c.attempt op answer).attempt
  pub outcome : (core_step c.saved c.attempt op answer).outcome ≡ outcome.Aborted
  pub back : (core_step c.saved c.attempt op answer).back ≡ Some d.saved
