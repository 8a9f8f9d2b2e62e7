-- A thread as its contracts see it.
use Rattle.std.specs.Prelude.{◌≡◌, ◌<◌, ◌≤◌, ℕ, Bool, false, List, [], Option, None, Some, IfSome, IsSomeAnd, length}
use Rattle.std.specs.Prelude.{slice_index}
use Rattle.syntax.specs.declared.thread_end.Status.{Status}
use Rattle.syntax.specs.declared.thread_end.Status.TheVariants.{Running}
use Rattle.nesting.specs.Begins.{Saved}
use Rattle.bytecode.specs.Effects.{Effect}
use Rattle.bytecode.specs.Effects.Effect.{Begin, Print, Pure, Read, Write}
use Rattle.bytecode.specs.Beginning.{beginning}
use Rattle.bytecode.specs.Code.{Code, Configuration, bounds_of, effect}
use Rattle.frames.specs.Open.{saved_in}
use Rattle.frames.specs.Stack.{HasRoom}
use Rattle.frames.specs.declared.doing.Doing.{Doing}
use Rattle.frames.specs.declared.doing.Doing.TheVariants as doing
use Rattle.frames.specs.Doings.{IsCall, IsDoingAt}
use Rattle.norec_core.specs.declared.step.Op.{Op}
use Rattle.norec_core.specs.declared.step.Op.TheVariants as op
use Rattle.norec_core.specs.declared.step.Access.{Access}
use Rattle.norec_core.specs.declared.step.Access.TheVariants.{LoadWord, Swap}
use Rattle.norec_core.specs.declared.step.Answer.{Answer}
use Rattle.norec_core.specs.declared.step.Answer.TheVariants.{Value}
use Rattle.norec_core.specs.Attempts.{Attempt}
use Rattle.norec_core.specs.Accesses.{stops}
use Rattle.norec_core.specs.Cores.{CommitsLocally, ComparesWith, IsComparing, IsStoring, IsWaiting, MayLog}
use Rattle.machine.specs.Explained.{has_lock}
use Rattle.machine.specs.Threads.{Next, Thread, op_of, access, step_with}

-- the preparation of a step: the operation requested of the core, what a begin then saves, and the capacity for an
-- entry of the read log, a pair of the write log, a call and a print
pub record Ready : Type 0 where
  pub asked : Option Op
  pub saved : Saved
  pub read_room : ℕ
  pub write_room : ℕ
  pub call_room : ℕ
  pub text_room : ℕ

-- the thread of the machine, the access for whose response all is ready, and the number of accesses made so far
pub record ThreadState : Type 0 where
  pub thread : Thread Configuration
  pub prepared : Option Access
  pub accesses : ℕ
  pub ready : Ready

-- the operation that a thread requests of the core in its next step, if any
abbrev pub asks_outside : {C : Type 0} → Status → Effect C → Option Op
asks_outside Running (Begin c d) = Some op.Begin
asks_outside _ _ = None

abbrev pub asks_by : {C : Type 0} → Thread C → Option (Attempt C) → Effect C → Option Op
asks_by th None x = asks_outside th.status x
asks_by th (Some a) x = op_of x a.kept th.trapping

abbrev pub asks : {C : Type 0} → (C → Effect C) → Thread C → Option Op
asks code th = asks_by th th.attempt (code th.configuration)

-- everything that the thread's next step needs is ready
pub record IsReady (code : Code) (th : Thread Configuration) (r : Ready) : Type 0 where
  pub asked : (o : Op) → asks (effect code) th ≡ Some o → r.asked ≡ Some o
  pub saved : asks (effect code) th ≡ Some op.Begin → r.saved ≡ saved_in th.configuration
  pub call : IsCall code th.configuration →
      HasRoom code (record { configuration = th.configuration; room = r.call_room })
  pub print : (piece : List ℕ) (next : Configuration) → effect code th.configuration ≡ Print piece next →
      length piece ≤ r.text_room

-- the access of the thread's next step is prepared, and if it runs, everything is ready
pub record IsPrepared (code : Code) (s : ThreadState) : Type 0 where
  pub access : s.prepared ≡ Some (access (effect code) s.thread)
  pub ready : s.thread.status ≡ Running → IsReady code s.thread s.ready

-- An instruction with this effect may allocate: a begin, or one that adds to something without spare capacity: a log
-- for a read or a write (not during validation), the text for a print (an empty piece is excluded), or the frames for a
-- call, whose work is in registers and frames.
abbrev pub WantsRoom : {S : Type 0} → Code → Configuration → Ready → Option (Attempt S) → Effect Configuration → Type 0
WantsRoom code c r o (Begin d e) = Unit {0}
WantsRoom code c r o (Read cell k) = (r.read_room ≡ 0) × IfSome o (λ a. MayLog a.phase)
WantsRoom code c r o (Write cell v d) = (r.write_room ≡ 0) × IfSome o (λ a. MayLog a.phase)
WantsRoom code c r o (Print piece d) = 0 < length piece → r.text_room < length piece
WantsRoom code c r o (Pure d) = HasRoom code (record { configuration = c; room = r.call_room }) → ⊥
WantsRoom code c r o _ = ⊥

-- the thread's next step may allocate
abbrev pub MayWantMemory : Code → Thread Configuration → Ready → Type 0
MayWantMemory code th r = WantsRoom code th.configuration r th.attempt (effect code th.configuration)

-- if the thread runs, this is the work at its place
abbrev pub StandsAt : Code → ThreadState → Doing → Type 0
StandsAt code s doing = s.thread.status ≡ Running → IsDoingAt code s.thread.configuration doing

-- a running thread's work after it has made steps by itself: no local step in its registers, no return, and no commit
-- that makes no access and does not have the lock
abbrev pub IsLeft : {S : Type 0} → Option (Attempt S) → Doing → Type 0
IsLeft o doing.Local = ⊥
IsLeft o (doing.Return w) = ⊥
IsLeft o doing.Commit = IsSomeAnd o (λ a. CommitsLocally a) → ⊥
IsLeft o x = Unit {0}

-- The thread runs, and its next step is the load of an outermost begin. The state that the begin saves is ready.
pub record BeginsNext (code : Code) (s : ThreadState) : Type 0 where
  pub running : s.thread.status ≡ Running
  pub attempt : s.thread.attempt ≡ None
  pub saved : s.ready.saved ≡ saved_in s.thread.configuration

-- the thread runs, and its commit next stores the pair at this index of the write log, or after the last pair the lock
pub record StoresNext (s : ThreadState) (index : ℕ) : Type 0 where
  pub running : s.thread.status ≡ Running
  pub stores : IsSomeAnd s.thread.attempt (λ a. IsStoring index a)

-- the thread runs, and its next access is a swap from this value of the lock, which has a successor
pub record SwapsNext (code : Code) (s : ThreadState) (from : ℕ) : Type 0 where
  pub running : s.thread.status ≡ Running
  pub swap : access (effect code) s.thread ≡ Swap from
  pub goes_on : stops (Swap from) ≡ false

-- the thread after both steps of a read
abbrev pub told_twice : Code → Thread Configuration → (word lock : ℕ) → Next Configuration
told_twice code th word lock = step_with (effect code) (step_with (effect code) th (Value word)).thread (Value lock)

-- a loaded word is in range for its cell's type
abbrev pub IsWordOf : Code → Access → Answer → Type 0
IsWordOf code (LoadWord cell) (Value word) = word < slice_index (bounds_of code) cell
IsWordOf code _ _ = Unit {0}

-- thread t of a code at its beginning
abbrev pub first_thread : Code → ℕ → Thread Configuration
first_thread code t = record {
  configuration = beginning code t;
  attempt = None;
  trapping = false;
  text = [];
  status = Running;
}

-- the thread's attempt has the lock
abbrev pub attempt_has_lock : {C : Type 0} → Option (Attempt C) → Bool
attempt_has_lock None = false
attempt_has_lock (Some a) = has_lock a.kept a.phase

abbrev pub thread_has_lock : {C : Type 0} → Thread C → Bool
thread_has_lock th = attempt_has_lock th.attempt

-- operations under which an attempt is validated: a read, a commit, and one that takes the lock to keep it
abbrev pub IsValidated : Op → Type 0
IsValidated (op.Read cell) = Unit {0}
IsValidated op.Commit = Unit {0}
IsValidated op.Irrevocable = Unit {0}
IsValidated _ = ⊥

-- the thread runs and is at an operation under which its attempt is validated, and validation next loads the lock,
-- until it is even
pub record WaitsNext (code : Code) (s : ThreadState) : Type 0 where
  pub running : s.thread.status ≡ Running
  pub operation : IsSomeAnd (asks (effect code) s.thread) IsValidated
  pub waits : IsSomeAnd s.thread.attempt (λ a. IsWaiting a)

-- The thread runs and is at an operation under which its attempt is validated, and validation at this lock value next
-- compares the entry at this index of the read log, or after the last entry the lock.
pub record ComparesNext (code : Code) (s : ThreadState) (time index : ℕ) : Type 0 where
  pub running : s.thread.status ≡ Running
  pub operation : IsSomeAnd (asks (effect code) s.thread) IsValidated
  pub compares : IsSomeAnd s.thread.attempt (λ a. IsComparing time index a)

-- validation at this lock value next compares this entry of the read log, the one at this index; none after the last
-- entry
abbrev pub ComparesEntry : ThreadState → (time index : ℕ) → Option (ℕ × ℕ) → Type 0
ComparesEntry s time index entry = IsSomeAnd s.thread.attempt (λ a. ComparesWith time index entry a)

-- the work at the thread's place is unchanged
abbrev pub StandsStill : Code → ThreadState → ThreadState → Type 0
StandsStill code s t = (doing : Doing) → StandsAt code s doing → StandsAt code t doing
