use Rattle.command.proofs.Refusals.{own_passed}
use Rattle.command.proofs.Tasks.{no_outcomes}
use Rattle.command.proofs.task.outcomes.Goals as goal

pub returns-in_err-threads_explored-clause-err : goal.returns-in_err-threads_explored-clause-err
returns-in_err-threads_explored-clause-err c = own_passed _ _ c.in_err-threads_explored.field-0.0 c.from_residual.result c.from_residual.ensures c.in_err-threads_explored.ensures.err (no_outcomes _)
