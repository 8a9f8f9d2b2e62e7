use Rattle.clap.specs.Words.{found_of, rows_of}
use Rattle.command.proofs.Refusals.{own_passed}
use Rattle.command.proofs.Testing.{no_more, no_tests}
use Rattle.command.proofs.read.job_of.Goals as goal

pub returns-in_err-wanted-clause-err : goal.returns-in_err-wanted-clause-err
returns-in_err-wanted-clause-err c = own_passed _ _ c.in_err-wanted.field-0.0 c.from_residual.result c.from_residual.ensures c.in_err-wanted.ensures.err (λ none. no_tests c.args.name.now (rows_of (found_of c.args.given.now)) (c.is_test.ensures.yes c.if-is_test.true) none)

pub returns-in_err-asked-clause-err : goal.returns-in_err-asked-clause-err
returns-in_err-asked-clause-err c = own_passed _ _ c.in_err-asked.field-0.0 c.from_residual-in_err-asked.result c.from_residual-in_err-asked.ensures c.in_err-asked.ensures.err (λ none. no_more c.args.name.now (rows_of (found_of c.args.given.now)) (c.is_test.ensures.no c.if-is_test.false) none)
