use Rattle.std.proofs.Common.{◌≡◌, take}
use Rattle.containers.proofs.copied.copy_all.Given as goal

abbrev pub invariant-each : goal.invariant-each
invariant-each g l = l.copies ≡ take l.one-index l.all
