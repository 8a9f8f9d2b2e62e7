use Rattle.std.proofs.Common.{◌≡◌, ◌-◌, ◌^◌, max, min, map, drop}
use Rattle.syntax.specs.Depth.{deepest_value}
use Rattle.syntax.specs.Views.{declarator_of}
use Rattle.syntax.proofs.depth_stmt.deepest_first.Given as goal

abbrev pub invariant-each : goal.invariant-each
invariant-each g l =
    max l.most (min (deepest_value (map declarator_of (drop l.one-index l.all))) (2 ^ 64 - 1)) ≡ min (deepest_value (map declarator_of l.all)) (2 ^ 64 - 1)
