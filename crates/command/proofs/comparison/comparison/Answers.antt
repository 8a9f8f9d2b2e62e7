use Rattle.command.proofs.Refusals.{own_passed}
use Rattle.command.proofs.comparison.comparison.Goals as goal

pub returns-in_err-threads-clause-err : goal.returns-in_err-threads-clause-err
returns-in_err-threads-clause-err c = own_passed _ _ c.in_err-threads.field-0.0 c.from_residual.result c.from_residual.ensures c.in_err-threads.ensures.err (λ none q are. none q.threads.first q.threads.last are.threads)
