use Rattle.std.proofs.Common.{◌≡◌, map}
use Rattle.report.specs.Views.{thread_of}
use Rattle.serving.specs.inner.ThreadReports.{report_shown}
use Rattle.serving.proofs.source.threads_shown.Given as goal

-- the list is that of the reports so far
abbrev pub invariant-reports : goal.invariant-reports
invariant-reports g l = map thread_of l.threads ≡ map report_shown l.yielded
