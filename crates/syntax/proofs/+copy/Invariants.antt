use Rattle.std.proofs.Common.{◌≡◌, take}
use Rattle.syntax.proofs.+copy.Given as goal

abbrev pub invariant-copy::copy_exprs-each : goal.invariant-copy::copy_exprs-each
invariant-copy::copy_exprs-each g l = l.copies ≡ take l.arg-index l.args
