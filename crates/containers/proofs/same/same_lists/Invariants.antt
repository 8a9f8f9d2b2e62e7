use Rattle.std.proofs.Common.{◌≡◌, take}
use Rattle.containers.proofs.same.same_lists.Given as goal

abbrev pub invariant-each : goal.invariant-each
invariant-each g l = take l.i l.xs ≡ take l.i l.ys
