use Rattle.std.proofs.Common.{◌≡◌, map}
use Rattle.report.specs.Pieces.{seen_of}
use Rattle.serving.specs.Runs.{threads_of_run}
use Rattle.serving.proofs.run.threads_seen.Given as goal

-- the threads so far
abbrev pub invariant-threads : goal.invariant-threads
invariant-threads l = map seen_of l.seen.items ≡ threads_of_run l.ran l.number
