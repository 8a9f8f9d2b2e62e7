use Rattle.std.proofs.Common.{◌≡◌, take}
use Rattle.world.specs.Reports.{threads_of, threads_shown}
use Rattle.world.proofs.world.World.thread_reports.Given as goal

abbrev pub invariant-threads : goal.invariant-threads
invariant-threads g l = threads_of l.shown.items ≡ take l.t (threads_shown l.stop l.self)
