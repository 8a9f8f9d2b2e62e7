use Rattle.command.proofs.Refusals.{own_passed}
use Rattle.command.proofs.Tasks.{no_replay}
use Rattle.command.proofs.task.replay.Goals as goal

pub returns-in_err-steps-clause-err : goal.returns-in_err-steps-clause-err
returns-in_err-steps-clause-err c = own_passed _ _ c.in_err-steps.field-0.0 c.from_residual-in_err-steps.result c.from_residual-in_err-steps.ensures c.in_err-steps.ensures.err (no_replay _)
