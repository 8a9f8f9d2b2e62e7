use Rattle.lower_exprs.proofs.Adding.{noted, no_less, stops}
use Rattle.lower_exprs.proofs.simple.lower_simple.Goals as goal

pub returns : goal.returns
returns g c = noted c.note.ensures c.in_ok-to.ensures

pub returns-in_err-to : goal.returns-in_err-to
returns-in_err-to g c = stops c.lower_effect.ensures c.in_err-to.was c.from_residual.ensures (no_less _)
