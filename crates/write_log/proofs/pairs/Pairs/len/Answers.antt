use Rattle.write_log.proofs.Order.{ordered-distinct}
use Rattle.write_log.proofs.pairs.Pairs.len.Goals as goal

pub returns-clause-distinct : goal.returns-clause-distinct
returns-clause-distinct g c = rw (← c.self.view_is) (ordered-distinct c.self.inside.list.items c.self.inside.order.items c.self.invariant.0)
