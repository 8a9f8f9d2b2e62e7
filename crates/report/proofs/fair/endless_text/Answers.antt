use Rattle.report.proofs.OutcomeList.{five_listed}
use Rattle.report.proofs.fair.endless_text.Goals as goal

pub returns : goal.returns
returns g c =
    five_listed _ _ _ _ _ _ _ _ _ _ _ c.new-line.ensures.items c.in_ok-push_bytes.ensures c.in_ok-push_order.ensures c.in_ok-push_bytes-2.ensures c.in_ok-push_order-2.ensures c.in_ok-push_bytes-3.ensures
