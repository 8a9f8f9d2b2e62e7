use Rattle.std.proofs.Common.{◌≡◌, ◌++◌, drop}
use Rattle.std.specs.Prelude.{flat_map}
use Rattle.picture.specs.Figures.{point_text}
use Rattle.picture.proofs.figure.put_points.Given as goal

-- what is written and what is to come make up the whole
abbrev pub invariant-points : goal.invariant-points
invariant-points g l =
    l.to.items ++ flat_map point_text (drop l.point-index l.points)
    ≡ l.initial.to.items ++ flat_map point_text l.points
