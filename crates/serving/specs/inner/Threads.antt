-- The results of running a text's threads, and the meaning of a fault of it.
use Rattle.std.specs.Prelude.{ℕ, List, map}
use Rattle.report.specs.Printed.{Printed}
use Rattle.report.specs.Views.{shown_of}
use Rattle.workers.specs.Driving.{IsRunRefused}
use Rattle.serving.specs.declared.run.RunLeft.{RunLeft}
use Rattle.serving.specs.declared.run.ThreadsFault.{ThreadsFault}
use Rattle.serving.specs.declared.run.ThreadsFault.TheVariants.{Source, Run}
use Rattle.serving.specs.Limits.{IsFaultOfText}
use Rattle.serving.specs.Runs.{held_by, threads_of_run}
use Rattle.serving.specs.inner.Printing.{plain_report}

-- the meaning of a fault for a text and a number of threads
abbrev pub IsThreadsFault : (text : List ℕ) (threads : ℕ) → ThreadsFault → Type 0
IsThreadsFault text threads (Source fault) = IsFaultOfText text fault
IsThreadsFault text threads (Run fault) = IsRunRefused fault threads

-- the content of the report of a run of this many threads, by the results of the run
abbrev pub left_shown : (threads : ℕ) → RunLeft → Printed
left_shown threads left =
    plain_report (threads_of_run left.ran threads) (map shown_of left.globals) (held_by left.ran.memory)
