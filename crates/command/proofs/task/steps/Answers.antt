use Rattle.std.proofs.Common.{sym}
use Rattle.command.proofs.Refusals.{own_passed}
use Rattle.command.proofs.Tasks.{no_ordered}
use Rattle.command.proofs.task.steps.Goals as goal

pub returns-in_err-order_of_steps-in-None-None-Some-clause-err : goal.returns-in_err-order_of_steps-in-None-None-Some-clause-err
returns-in_err-order_of_steps-in-None-None-Some-clause-err c =
    own_passed _ _ c.in_err-order_of_steps-in-None-None-Some.field-0.0 c.from_residual-in_err-order_of_steps-in-None-None-Some.result c.from_residual-in_err-order_of_steps-in-None-None-Some.ensures c.in_err-order_of_steps-in-None-None-Some.ensures.err (no_ordered _ c.in-None-None-Some.field-0-2.now (sym c.in-None-None-Some.ensures'))
