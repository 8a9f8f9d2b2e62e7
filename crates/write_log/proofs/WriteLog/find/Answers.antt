use Rattle.write_log.proofs.Order.{position_is}
use Rattle.write_log.proofs.WriteLog.find.Goals as goal

pub returns-clause-index : goal.returns-clause-index
returns-clause-index g c = rw (← c.self.view_is) (position_is c.args.cell c.self.inside.pairs.pairs c.find.result c.find.ensures.distinct c.find.ensures.found)
