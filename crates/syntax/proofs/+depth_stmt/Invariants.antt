use Rattle.std.proofs.Common.{◌≡◌, ◌≤◌, ◌-◌, ◌^◌, max, min, drop}
use Rattle.syntax.specs.Depth.{block_depth}
use Rattle.syntax.specs.Views.{stmts_of}
use Rattle.syntax.proofs.+depth_stmt.Given as goal

abbrev pub invariant-depth_stmt::block_depth_of-each : goal.invariant-depth_stmt::block_depth_of-each
invariant-depth_stmt::block_depth_of-each g l =
    (max l.most (min (block_depth (stmts_of (drop l.one-index l.all))) (2 ^ 64 - 1)) ≡ min (block_depth (stmts_of l.all)) (2 ^ 64 - 1)) × (1 ≤ l.most)
