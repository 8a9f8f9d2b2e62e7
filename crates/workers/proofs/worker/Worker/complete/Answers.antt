use Rattle.workers.proofs.Going.{by_none}
use Rattle.workers.proofs.worker.Worker.complete.Goals as goal

pub returns-in_default-clause-goes_on : goal.returns-in_default-clause-goes_on
returns-in_default-clause-goes_on g c = by_none c.args.words.now.table_id c.args.words.now.key c.args.self.now
