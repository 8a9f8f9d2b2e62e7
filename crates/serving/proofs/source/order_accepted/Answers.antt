use Rattle.serving.proofs.ThreadReports.{order_shown_of}
use Rattle.serving.proofs.source.order_accepted.Goals as goal

pub returns-in-Ok-clause-ok : goal.returns-in-Ok-clause-ok
returns-in-Ok-clause-ok g c =
    order_shown_of _ _ _ _ c.in_ok-ran.ran _ c.in_ok-ran.ensures.asked.1 c.in_ok-ran.ensures.value (rw c.unit_of.ensures at c.in-Ok.ensures)
