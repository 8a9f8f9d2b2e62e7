use Rattle.parse.specs.Faults.{source_of}
use Rattle.serving.proofs.Refusals.{faulty_passed, uncoded}
use Rattle.serving.proofs.program.compile.Goals as goal

pub returns-in-Ok-clause-code : goal.returns-in-Ok-clause-code
returns-in-Ok-clause-code g c = record { means = c.in-Ok.ensures.means; globals = c.in-Ok.ensures.globals }

pub returns-in-Err-clause-err : goal.returns-in-Err-clause-err
returns-in-Err-clause-err g c = uncoded c.args.text.now (source_of c.in_ok-accepted.accepted.safe.typed.unit) c.in-Err.fault c.in_ok-accepted.ensures.ok c.in_ok-accepted.accepted.accepted c.in-Err.ensures.fault

pub returns-in_err-accepted-clause-err : goal.returns-in_err-accepted-clause-err
returns-in_err-accepted-clause-err g c = faulty_passed c.args.text.now c.in_err-accepted.field-0.0 c.from_residual.result c.from_residual.ensures c.in_err-accepted.ensures.err
