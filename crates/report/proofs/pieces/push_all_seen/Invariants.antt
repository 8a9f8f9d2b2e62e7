use Rattle.std.proofs.Common.{◌≡◌, ◌++◌, map, drop}
use Rattle.report.specs.Pieces.{joined, seen_of}
use Rattle.report.specs.Report.{threads_text}
use Rattle.report.proofs.pieces.push_all_seen.Given as goal

-- what is added and what is to come make up the whole
abbrev pub invariant-threads : goal.invariant-threads
invariant-threads g l = joined l.pieces.items ++ threads_text l.number (map seen_of (drop l.number l.threads)) ≡ joined l.initial.pieces.items ++ threads_text 0 (map seen_of l.threads)
