use Rattle.command.proofs.Refusals.{own_passed}
use Rattle.command.proofs.Tasks.{no_trace}
use Rattle.command.proofs.task.trace.Goals as goal

pub returns-in_err-order_given-clause-err : goal.returns-in_err-order_given-clause-err
returns-in_err-order_given-clause-err c = own_passed _ _ c.in_err-order_given.field-0.0 c.from_residual-in_err-order_given.result c.from_residual-in_err-order_given.ensures c.in_err-order_given.ensures.err (no_trace _)
