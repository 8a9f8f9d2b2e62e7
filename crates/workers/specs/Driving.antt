-- Workers after their loops, and the report of a run of all threads.
use Rattle.std.specs.Prelude.{◌≡◌, ◌⊎◌, ◌<◌, ◌≤◌, ℕ, List, [], ◌∷◌, Option, None, Some}
use Rattle.atomic_table.specs.Seated.{TableId}
use Rattle.syntax.specs.Behaviours.{Behaviour}
use Rattle.syntax.specs.declared.thread_end.Status.TheVariants.{Running}
use Rattle.bytecode.specs.Code.{Code, Configuration}
use Rattle.norec_core.specs.declared.step.Stop.{Stop}
use Rattle.machine.specs.Merges.{Entry, IsMerge}
use Rattle.machine.specs.Threads.{Thread}
use Rattle.workers.specs.Opening.{IsWorkerCount}
use Rattle.workers.specs.Works.{Because}
use Rattle.workers.specs.declared.worker.Worker.{Worker}
use Rattle.workers.specs.declared.run.Ending.{Ending}
use Rattle.workers.specs.declared.run.RunFault.{RunFault}
use Rattle.workers.specs.declared.run.RunFault.TheVariants.{OutOfMemory, Threads, NotStarted}
use Rattle.workers.specs.declared.run.RunMemory.{RunMemory}
use Rattle.workers.specs.declared.run.RunMemory.TheVariants.{Words, LockHeld}
use Rattle.workers.specs.declared.run.RunReport.{RunReport}
use Rattle.shared_words.specs.Setup.{Setup}
use Rattle.shared_words.specs.Saying.{IsExplainedAtSeats}
use Rattle.workers.specs.Workers.{AreWorkersOf}
use Rattle.workers.specs.Closing.{AllHere, Closes, Holds, NoneHolds}

-- a thread that no stop ended has terminated within its steps, or has made exactly these; one that a stop ended still
-- runs, has made fewer, and its next step was not made for this reason
abbrev pub EndsBy : Option Stop → Code → Thread Configuration → (all steps : ℕ) → Type 0
EndsBy None code th all steps = (steps ≤ all) × (th.status ≡ Running → steps ≡ all)
EndsBy (Some e) code th all steps = (th.status ≡ Running) × (steps < all) × Because e code th

-- why nothing is reported: the number of threads is refused exactly if it is not 1 to 64
abbrev pub IsRunRefused : RunFault → ℕ → Type 0
IsRunRefused OutOfMemory threads = IsWorkerCount threads
IsRunRefused Threads threads = (threads ≡ 0) ⊎ (64 < threads)
IsRunRefused NotStarted threads = IsWorkerCount threads

abbrev pub run_number : RunFault → ℕ
run_number OutOfMemory = 0
run_number Threads = 72
run_number NotStarted = 73

-- A is the allocator
module _ {A : Type 0} where
  -- how a worker's loop ended
  abbrev pub IsEndOfLoop : Setup → ℕ → Option Stop → Worker A → Type 0
  IsEndOfLoop key all stopped w = EndsBy stopped key.code w.thread.thread all w.steps

  -- how each worker's loop ended
  abbrev pub AreEnded : Setup → ℕ → List (Worker A) → List Ending → Type 0
  AreEnded key all [] [] = Unit {0}
  AreEnded key all [] (e ∷ es) = ⊥
  AreEnded key all (w ∷ ws) [] = ⊥
  AreEnded key all (w ∷ ws) (e ∷ es) =
      ((e.number ≡ w.number) × IsEndOfLoop key all e.stopped w) × AreEnded key all ws es

  -- the words, if no worker's thread has the lock; otherwise the thread that has it
  abbrev pub IsMemoryOf : RunMemory → List (Worker A) → List ℕ → Type 0
  IsMemoryOf (Words v) ws cells = (v.items ≡ cells) × NoneHolds ws
  IsMemoryOf (LockHeld n) ws cells = Holds ws n

  -- One world, which some list of steps of the machine leads to, has all threads and the words as reported. Each merge
  -- of its records is a run of the program that contains every thread's state.
  pub record Ran (does : Behaviour) (key : Setup) (all : ℕ) (r : RunReport A) : Type 0 where
    pub table : TableId
    pub workers : List (Worker A)
    pub are : AreWorkersOf table key workers
    pub cells : List ℕ
    pub closes : Closes table key workers are cells r.threads.items
    pub here : AllHere workers key.threads
    pub memory : IsMemoryOf r.memory workers cells
    pub ends : AreEnded key all workers r.ends.items
    pub program : (es : List Entry) → IsMerge closes.world.parts es → IsExplainedAtSeats does key closes.world es
