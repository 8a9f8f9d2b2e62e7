-- Reports justified by runs of the source.
use Rattle.std.specs.Prelude.{◌≡◌, ℕ, List, length, Some, false}
use Rattle.std.specs.List.{slice_get}
use Rattle.syntax.specs.Tree.{Program}
use Rattle.syntax.specs.Names.{globals, initial_memory}
use Rattle.syntax.specs.declared.thread_end.Status.{Status}
use Rattle.syntax.specs.Behaviours.{Stands, Step, founds_of, lefts_of, last_memory}
use Rattle.syntax.specs.Threads.{thread, IsSourceRun}
use Rattle.report.specs.Printed.{ThreadShown, Printed}
use Rattle.serving.specs.Reports.{is_stopped}
use Rattle.serving.specs.Shows.{shown_globals, thread_shown}

-- There is a run of the source, one whole transaction after another, whose last memory has the globals shown; each
-- thread that is shown to have ended or trapped leaves there what it leaves in the run, on the memories that it finds
-- in it, and does just what is shown; and each thread is in the run with the text that is shown.
pub record IsSerial (p : Program) (threads : ℕ) (shown : Printed) : Type 0 where
  pub run : List Step
  pub is_run : IsSourceRun p threads run
  pub count : length shown.threads ≡ threads
  pub each : (t : ℕ) (this : ThreadShown) → slice_get shown.threads t ≡ Some this → is_stopped this.end ≡ false →
      (n : ℕ) × ((thread p t (founds_of t run) n).lefts ≡ lefts_of t run)
      × (this ≡ thread_shown (thread p t (founds_of t run) n))
  pub prints : (t : ℕ) (this : ThreadShown) → slice_get shown.threads t ≡ Some this →
      (status : Status) × Stands (thread p) (initial_memory p) run t this.text status
  pub globals : shown.globals ≡ shown_globals (globals p) (last_memory (initial_memory p) run)
