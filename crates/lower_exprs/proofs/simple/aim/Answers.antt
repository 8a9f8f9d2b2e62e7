use Rattle.lower_exprs.proofs.Adding.{noted, no_less, stops}
use Rattle.lower_exprs.proofs.simple.aim.Goals as goal

pub returns : goal.returns
returns g c = noted c.note.ensures c.in_ok-aim.ensures

pub returns-in_err-aim : goal.returns-in_err-aim
returns-in_err-aim g c = stops c.find_aim.ensures c.in_err-aim.was c.from_residual.ensures (no_less _)
