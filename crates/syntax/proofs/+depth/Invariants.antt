use Rattle.std.proofs.Common.{◌≡◌, ◌-◌, ◌^◌, max, min, drop}
use Rattle.syntax.specs.Depth.{deepest}
use Rattle.syntax.specs.Views.{exprs_of}
use Rattle.syntax.proofs.+depth.Given as goal

abbrev pub invariant-depth::deepest_of-each : goal.invariant-depth::deepest_of-each
invariant-depth::deepest_of-each g l =
    max l.most (min (deepest (exprs_of (drop l.arg-index l.args))) (2 ^ 64 - 1)) ≡ min (deepest (exprs_of l.args)) (2 ^ 64 - 1)
