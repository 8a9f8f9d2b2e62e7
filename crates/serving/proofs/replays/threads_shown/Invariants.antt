use Rattle.std.proofs.Common.{◌≡◌, map}
use Rattle.world.specs.Reports.{threads_of}
use Rattle.report.specs.Views.{thread_of}
use Rattle.serving.specs.Replays.{thread_found}
use Rattle.serving.proofs.replays.threads_shown.Given as goal

-- the list is that of the threads so far
abbrev pub invariant-found : goal.invariant-found
invariant-found g l = map thread_of l.threads ≡ map thread_found (threads_of l.yielded)
