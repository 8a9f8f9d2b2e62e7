use Rattle.std.proofs.Common.{arith}
use Rattle.write_log.proofs.Order.{dense}
use Rattle.write_log.proofs.pairs.seek.Goals as goal

pub returns-then-above-from-2-clause-found : goal.returns-then-above-from-2-clause-found
returns-then-above-from-2-clause-found g c =
    dense c.args.order.now c.args.least c.args.above c.args.cell c.requires.rising c.requires.between c.if-cell-least.false (omega arith) (omega arith)
