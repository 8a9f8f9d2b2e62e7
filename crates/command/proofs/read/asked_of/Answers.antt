use Rattle.command.proofs.Refusals.{own_passed}
use Rattle.command.proofs.read.asked_of.Goals as goal

pub returns-in_err-definitions-clause-err : goal.returns-in_err-definitions-clause-err
returns-in_err-definitions-clause-err c = own_passed _ _ c.in_err-definitions.field-0.0 c.from_residual-in_err-definitions.result c.from_residual-in_err-definitions.ensures c.in_err-definitions.ensures.err (λ none asked is. none asked.definitions.items is.definitions_are)
