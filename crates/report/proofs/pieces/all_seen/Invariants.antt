use Rattle.std.proofs.Common.{◌≡◌, map, take}
use Rattle.report.specs.Pieces.{seen_of}
use Rattle.report.specs.Views.{thread_of}
use Rattle.report.proofs.pieces.all_seen.Given as goal

-- those before are there
abbrev pub invariant-threads : goal.invariant-threads
invariant-threads g l = map seen_of l.seen.items ≡ map thread_of (take l.thread-index l.threads)
