-- The contracts' view of a hall, of its workers, and of the threads of a closed hall.
use Rattle.std.specs.Prelude.{ℕ}
use Rattle.atomic_table.specs.Seated.{TableId}
use Rattle.bytecode.specs.Code.{Configuration}
use Rattle.machine.specs.States.{ThreadState}
use Rattle.machine.specs.Threads.{Thread}
use Rattle.shared_words.specs.Setup.{Setup}
use Rattle.workers.specs.declared.hall.Hall.{Hall}
use Rattle.workers.specs.declared.worker.Worker.{Worker}
use Rattle.workers.specs.declared.close.Finished.{Finished}
use Rattle.workers.specs.declared.tally.Tally.{Tally}

-- A is the allocator
module _ {A : Type 0} where
  -- the table of words that the workers share
  abbrev pub table_of : Hall A → TableId
  table_of hall = hall.table.shared.table_id

  -- the code, and how many threads there are
  abbrev pub setup_of : Hall A → Setup
  setup_of hall = hall.setup

  -- the number of the worker's thread
  abbrev pub worker_number : Worker A → ℕ
  worker_number w = w.number

  -- the worker's current thread, with the preparation of its next step
  abbrev pub state_of : Worker A → ThreadState
  state_of w = w.thread

  -- the state of the worker's thread
  abbrev pub thread_of : Worker A → Thread Configuration
  thread_of w = w.thread.thread

  -- the steps that the worker has made
  abbrev pub steps_of : Worker A → ℕ
  steps_of w = w.steps

  -- the accesses to the lock or a cell among the worker's steps
  abbrev pub accesses_of : Worker A → ℕ
  accesses_of w = w.thread.accesses

  -- the worker's tally of its thread's attempts
  abbrev pub tally_of : Worker A → Tally
  tally_of w = w.tally

  -- of a thread of a closed hall its number, its state, its steps, the accesses among them, and its tally
  abbrev pub finished_number : Finished A → ℕ
  finished_number f = f.number

  abbrev pub finished_thread : Finished A → Thread Configuration
  finished_thread f = f.thread.thread

  abbrev pub finished_steps : Finished A → ℕ
  finished_steps f = f.steps

  abbrev pub finished_accesses : Finished A → ℕ
  finished_accesses f = f.thread.accesses

  abbrev pub finished_tally : Finished A → Tally
  finished_tally f = f.tally
