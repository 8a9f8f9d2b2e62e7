-- Running all threads of a source's text at once.
use Rattle.std.specs.Prelude.{◌≡◌, ◌==◌, ◌<◌, ℕ, zero, suc, List, [], ◌∷◌, ◌++◌, Option, Some, None}
use Rattle.std.specs.List.{find, slice_get}
use Rattle.std.specs.Option.{option_and_then}
use Rattle.std.specs.Global.{Global}
use Rattle.syntax.specs.Tree.{Program}
use Rattle.syntax.specs.Names.{globals}
use Rattle.syntax.specs.declared.thread_end.Status.{Status}
use Rattle.syntax.specs.declared.thread_end.Status.TheVariants.{Running, Ended as HasEnded, Trapped as HasTrapped}
use Rattle.syntax.specs.Threads.{thread}
use Rattle.bytecode.specs.Code.{Code, Configuration, effect}
use Rattle.norec_core.specs.declared.step.Stop.{Stop}
use Rattle.norec_core.specs.declared.step.Stop.TheVariants as stop
use Rattle.machine.specs.Answered.{Heard, StepsHearing}
use Rattle.machine.specs.States.{first_thread}
use Rattle.machine.specs.Worlds.{Part, World}
use Rattle.workers.specs.Driving.{EndsBy, Ran}
use Rattle.workers.specs.Seen.{finished_number, finished_thread}
use Rattle.workers.specs.declared.close.Finished.{Finished}
use Rattle.workers.specs.declared.run.Ending.{Ending}
use Rattle.workers.specs.declared.run.RunMemory.{RunMemory}
use Rattle.workers.specs.declared.run.RunMemory.TheVariants.{Words, LockHeld}
use Rattle.workers.specs.declared.run.RunReport.{RunReport}
use Rattle.report.specs.Printed.{Shown, ThreadShown, Printed}
use Rattle.report.specs.declared.printed.End.{End}
use Rattle.report.specs.declared.printed.End.TheVariants as end
use Rattle.serving.specs.Codes.{Compiles}
use Rattle.serving.specs.Shows.{shown_globals}

-- the status of a thread after a run of all threads at once: by its state, and by what stopped it
abbrev pub end_of_run : Status → Option Stop → End
end_of_run HasEnded stopped = end.Ended
end_of_run (HasTrapped k) stopped = end.Trapped k
end_of_run Running None = end.Budget
end_of_run Running (Some stop.OutOfMemory) = end.OutOfMemory
end_of_run Running (Some stop.SequenceUsedUp) = end.SequenceUsedUp

-- what stopped the thread of this number
abbrev pub stopped_of : List Ending → ℕ → Option Stop
stopped_of ends t = option_and_then (λ e. e.stopped) (find (λ e. e.number == t) ends)

module _ {G : Type 0} where
  -- a thread after a run of all threads at once, if there is one
  abbrev pub finished_shown : Option Stop → Option (Finished G) → ThreadShown
  finished_shown stopped (Some f) =
      record { end = end_of_run (finished_thread f).status stopped; text = (finished_thread f).text }
  finished_shown stopped None = record { end = end.Running; text = [] }

  abbrev pub thread_of_run : RunReport G → ℕ → ThreadShown
  thread_of_run r t = finished_shown (stopped_of r.ends.items t) (find (λ f. finished_number f == t) r.threads.items)

  -- the first n threads of a run, from thread 0 on
  abbrev pub threads_of_run : RunReport G → ℕ → List ThreadShown
  threads_of_run r zero = []
  threads_of_run r (suc n) = threads_of_run r n ++ thread_of_run r n ∷ []

-- the globals, if no thread has the lock
abbrev pub globals_left : Program → RunMemory → List Shown
globals_left p (Words v) = shown_globals (globals p) v.items
globals_left p (LockHeld t) = []

abbrev pub held_by : RunMemory → Option ℕ
held_by (Words v) = None
held_by (LockHeld t) = Some t

-- all threads of a program at once
abbrev pub run_shown : {G : Type 0} → Program → ℕ → RunReport G → Printed
run_shown p threads r = record {
  events = None;
  threads = threads_of_run r threads;
  globals = globals_left p r.memory;
  holder = held_by r.memory;
}

-- A report shows the text of the thread with this number, and its end in the world that the run led to. A number of its
-- own steps, no more than its budget, has led it there. It made no further step because of what stopped its loop; if
-- nothing did, it has terminated, or all steps of its budget are made.
pub record IsConcurrentThread (code : Code) (w : World Configuration) (budget n : ℕ)
    (shown : ThreadShown) : Type 0 where
  pub part : Part Configuration
  pub there : slice_get w.parts n ≡ Some part
  pub steps : ℕ
  pub answers : List Heard
  pub makes : StepsHearing (effect code) (first_thread code n) steps answers part.thread
  pub stopped : Option Stop
  pub because : EndsBy stopped code part.thread budget steps
  pub shows : shown ≡ record { end = end_of_run part.thread.status stopped; text = part.thread.text }

-- what a report shows of this many threads of this code at once, each with at most this many steps: their run is one of
-- the program, and each thread is shown as it is in that run
pub record IsConcurrentRun (p : Program) (code : Code) (threads budget : ℕ) (shown : Printed) : Type 0 where
  pub report : RunReport Global
  pub ran : Ran (thread p) (record { code = code; threads = threads }) budget report
  pub shows : shown ≡ run_shown p threads report
  pub each : (n : ℕ) → n < threads → IsConcurrentThread code ran.closes.world budget n (thread_of_run report n)

-- the text spells an accepted program, and this is what the report of a run of its threads shows
pub record RunsConcurrently (threads budget : ℕ) (text : List ℕ) (shown : Printed) : Type 0 where
  pub code : Code
  pub compiled : Compiles text code
  pub run : IsConcurrentRun compiled.source.program code threads budget shown
