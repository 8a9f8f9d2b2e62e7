use Rattle.std.proofs.Common.{map, take}
use Rattle.report.specs.Views.{reported_of}
use Rattle.refinements.specs.inner.Closest.{IsClosest}
use Rattle.refinements.proofs.admitted.find_closest.Given as goal

-- the closest of the outcomes before the next one
abbrev pub invariant-outcomes : goal.invariant-outcomes
invariant-outcomes g l = IsClosest (map reported_of (take l.one-index l.outcomes)) l.report l.closest
