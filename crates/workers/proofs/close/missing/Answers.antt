use Rattle.workers.specs.Closing.{HasWorkerFor}
use Rattle.workers.proofs.Closings.{below_more}
use Rattle.workers.proofs.close.missing.Goals as goal

pub numbers-preserved : goal.numbers-preserved
numbers-preserved g c = below_more (HasWorkerFor c.args.workers.now.items) c.numbers.number c.numbers.invariant c.if-not-has.ensures
