use Rattle.std.proofs.Common.{◌≡◌, ◌<◌, length, rules}
use Rattle.write_log.proofs.Order.{kept, none-rising, numbered-order}
use Rattle.write_log.proofs.pairs.keep_order.Goals as goal

pub returns-then-is_empty-clause-order : goal.returns-then-is_empty-clause-order
returns-then-is_empty-clause-order g c =
    let none : length c.args.order.now.items ≡ 0 = search rules in
    numbered-order c.args.list.now c.make_order.new.order.items (none-rising c.args.list.now c.args.order.now.items none c.requires.ordered) c.make_order.ensures.numbered

pub returns-else-is_empty-clause-order : goal.returns-else-is_empty-clause-order
returns-else-is_empty-clause-order g c =
    let some : 0 < length c.args.order.now.items = search rules in
    kept c.args.list.now c.args.order.now.items some c.requires.ordered
