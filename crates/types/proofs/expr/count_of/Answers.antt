use Rattle.std.proofs.Common.{sym}
use Rattle.types.proofs.Loops.{count_of}
use Rattle.types.proofs.expr.count_of.Goals as goal

pub returns : goal.returns
returns g c = sym (count_of c.args.all.now)
