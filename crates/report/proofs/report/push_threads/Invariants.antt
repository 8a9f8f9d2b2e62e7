use Rattle.std.proofs.Common.{◌≡◌, ◌++◌, map, drop}
use Rattle.report.specs.Report.{threads_text}
use Rattle.report.specs.Views.{thread_of}
use Rattle.report.proofs.report.push_threads.Given as goal

-- what is written and what is to come make up the whole
abbrev pub invariant-threads : goal.invariant-threads
invariant-threads g l = l.report.items ++ threads_text l.number (map thread_of (drop l.number l.threads)) ≡ l.initial.report.items ++ threads_text 0 (map thread_of l.threads)
