use Rattle.std.proofs.Common.{◌≡◌, ◌-◌, ◌^◌, max, min, map, drop}
use Rattle.syntax.specs.Depth.{program_depth}
use Rattle.syntax.specs.Views.{item_of}
use Rattle.syntax.proofs.depth_unit.deepest_item.Given as goal

abbrev pub invariant-each : goal.invariant-each
invariant-each g l =
    max l.most (min (program_depth (map item_of (drop l.one-index l.all))) (2 ^ 64 - 1)) ≡ min (program_depth (map item_of l.all)) (2 ^ 64 - 1)
