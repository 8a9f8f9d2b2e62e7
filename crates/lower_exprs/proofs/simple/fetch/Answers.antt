use Rattle.lower_exprs.proofs.Adding.{noted, no_less, stops}
use Rattle.lower_exprs.proofs.simple.fetch.Goals as goal

pub returns : goal.returns
returns g c = noted c.note.ensures c.in_ok-old.ensures

pub returns-in_err-old : goal.returns-in_err-old
returns-in_err-old g c = stops c.put_old.ensures c.in_err-old.was c.from_residual.ensures (no_less _)
