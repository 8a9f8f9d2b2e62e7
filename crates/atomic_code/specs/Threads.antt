-- A thread that runs its transactions as single steps, and the thread of the code's semantics that it represents.
use Rattle.std.specs.Prelude.{◌≡◌, ℕ, Bool, List, [], ◌∷◌, ◌++◌, map, Option, None, Some}
use Rattle.std.specs.List.{AllByRecursion}
use Rattle.syntax.specs.declared.thread_end.Status.{Status}
use Rattle.syntax.specs.declared.thread_end.Status.TheVariants.{Running, Ended as HasEnded, Trapped as HasTrapped}
use Rattle.syntax.specs.Behaviours.{Memory, IsMemory}
use Rattle.nesting.specs.Begins.{Saved}
use Rattle.bytecode.specs.Effects.{after_cancel}
use Rattle.bytecode.specs.Code.{Code, Configuration, effect}
use Rattle.bytecode.specs.Beginning.{beginning}
use Rattle.bytecode.specs.Sequential.{Sequential, OpenTransaction, InnerTransaction}
use Rattle.bytecode.specs.Valid.{bounds_of}
use Rattle.frames.specs.Open.{MayStand, begin_configuration}

-- a thread: for each open begin it keeps what the begin saved, and not where a cancel continues
pub record AtomicThread : Type 0 where
  pub configuration : Configuration
  pub open_in : Option (OpenTransaction Saved)
  pub text : List ℕ
  pub status : Status

-- a thread, and how many instructions it has executed
pub record AtomicThreadState : Type 0 where
  pub thread : AtomicThread
  pub steps : ℕ

-- thread t of a code at its beginning
abbrev pub first_thread : Code → ℕ → AtomicThread
first_thread code t = record { configuration = beginning code t; open_in = None; text = []; status = Running }

-- where a cancel of a begin continues, given what the begin saved
abbrev pub cancelled_from : Code → Configuration → Saved → Configuration
cancelled_from code c s = after_cancel (effect code (begin_configuration c s)) (begin_configuration c s)

-- transactions with a function applied to each begin
abbrev pub inner_by : {S T : Type 0} → (S → T) → InnerTransaction S → InnerTransaction T
inner_by f i = record { cancelled = f i.cancelled; mem = i.mem }

abbrev pub transaction_by : {S T : Type 0} → (S → T) → OpenTransaction S → OpenTransaction T
transaction_by f o = record {
  cancelled = f o.cancelled;
  found = o.found;
  mem = o.mem;
  inner = map (inner_by f) o.inner;
  kept = o.kept;
}

abbrev pub open_by : {S T : Type 0} → (S → T) → Option (OpenTransaction S) → Option (OpenTransaction T)
open_by f None = None
open_by f (Some o) = Some (transaction_by f o)

-- the thread of the code's semantics, with these memories to find and these left
abbrev pub meaning_thread : Code → List Memory → List Memory → Bool → AtomicThread → Sequential Configuration
meaning_thread code founds lefts wants k = record {
  configuration = k.configuration;
  inside = open_by (cancelled_from code k.configuration) k.open_in;
  founds = founds;
  lefts = lefts;
  text = k.text;
  status = k.status;
  wants = wants;
}

-- what the open begins saved, the innermost first
abbrev pub begins_of : {S : Type 0} → Option (OpenTransaction S) → List S
begins_of None = []
begins_of {S} (Some o) = map (λ (i : InnerTransaction S). i.cancelled) o.inner ++ o.cancelled ∷ []

-- all memories of an open transaction are memories of the code
pub record AreTransactionMemories {S : Type 0} (bounds : List ℕ) (o : OpenTransaction S) : Type 0 where
  pub found : IsMemory bounds o.found
  pub now : IsMemory bounds o.mem
  pub inner : AllByRecursion (λ (i : InnerTransaction S). IsMemory bounds i.mem) o.inner

abbrev pub HasMemories : {S : Type 0} → List ℕ → Option (OpenTransaction S) → Type 0
HasMemories bounds None = Unit {0}
HasMemories bounds (Some o) = AreTransactionMemories bounds o

-- a running thread has a possible configuration, with the begins that are open there, and memories of the code
pub record RunsAtomically (code : Code) (k : AtomicThread) : Type 0 where
  pub stands : MayStand code k.configuration (begins_of k.open_in)
  pub memories : HasMemories (bounds_of code) k.open_in

-- the invariant of a thread with this status: one that has terminated is in no transaction
abbrev pub StandsAtomically : Code → AtomicThread → Status → Type 0
StandsAtomically code k Running = RunsAtomically code k
StandsAtomically code k HasEnded = k.open_in ≡ None
StandsAtomically code k (HasTrapped cause) = k.open_in ≡ None

-- the thread is one of this code
unfoldable pub IsAtomicThreadOf : Code → AtomicThread → Type 0
IsAtomicThreadOf code k = StandsAtomically code k k.status
