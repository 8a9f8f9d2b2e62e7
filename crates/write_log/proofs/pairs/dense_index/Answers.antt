use Rattle.std.proofs.Common.{◌≡◌, length, arith, rules}
use Rattle.write_log.proofs.Order.{dense, none-rising}
use Rattle.write_log.proofs.pairs.dense_index.Goals as goal

pub returns : goal.returns
returns c =
    let list = c.args.list.now in
    let order = c.args.order.now in
    let none : length order ≡ 0 = search rules in
    dense list c.args.least c.args.above c.args.cell (none-rising list order none c.requires.ordered) c.requires.between (omega arith) (omega arith) (omega arith)
