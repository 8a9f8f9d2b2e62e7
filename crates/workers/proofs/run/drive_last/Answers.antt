use Rattle.std.proofs.Common.{sym, subst}
use Rattle.workers.specs.declared.worker.Worker.{Worker}
use Rattle.workers.specs.Workers.{StepsOn}
use Rattle.workers.proofs.run.drive_last.Goals as goal

pub returns-in-Ok-clause-goes_on : goal.returns-in-Ok-clause-goes_on
returns-in-Ok-clause-goes_on c = subst (λ (w : Worker _). StepsOn c.args.hall.now.table.shared.table_id c.args.hall.now.setup c.args.worker w) (sym c.driven_of.ensures.0) c.run.ensures.goes_on.1

pub returns-in-Err-clause-goes_on : goal.returns-in-Err-clause-goes_on
returns-in-Err-clause-goes_on c = subst (λ (w : Worker _). StepsOn c.args.hall.now.table.shared.table_id c.args.hall.now.setup c.args.worker w) (sym c.driven_of-in-Err.ensures.0) c.run.ensures.goes_on.1
