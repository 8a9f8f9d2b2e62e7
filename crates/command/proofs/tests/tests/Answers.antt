use Rattle.command.proofs.Refusals.{own_passed}
use Rattle.command.proofs.tests.tests.Goals as goal

pub returns-in_err-format-clause-err : goal.returns-in_err-format-clause-err
returns-in_err-format-clause-err c = own_passed _ _ c.in_err-format.field-0.0 c.from_residual.result c.from_residual.ensures c.in_err-format.ensures.err (λ none t are. none t.format are.format)
