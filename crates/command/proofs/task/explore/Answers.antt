use Rattle.command.proofs.Refusals.{own_passed}
use Rattle.command.proofs.Tasks.{no_explore}
use Rattle.command.proofs.task.explore.Goals as goal

pub returns-in_err-order_opened-clause-err : goal.returns-in_err-order_opened-clause-err
returns-in_err-order_opened-clause-err c = own_passed _ _ c.in_err-order_opened.field-0.0 c.from_residual-in_err-order_opened.result c.from_residual-in_err-order_opened.ensures c.in_err-order_opened.ensures.err (no_explore _)
