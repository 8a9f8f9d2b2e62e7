use Rattle.lower_exprs.proofs.Adding.{noted, no_less, stops}
use Rattle.lower_exprs.proofs.simple.lower_declarator.Goals as goal

pub returns-clause-code : goal.returns-clause-code
returns-clause-code g c = noted c.note.ensures c.in_ok-to.ensures.code

pub returns-in_err-to-clause-code : goal.returns-in_err-to-clause-code
returns-in_err-to-clause-code g c = stops c.lower_local.ensures.code c.in_err-to.was c.from_residual.ensures (no_less _)
