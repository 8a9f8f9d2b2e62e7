use Rattle.std.proofs.Common.{◌∙◌, ◌++◌, ap}
use Rattle.std.proofs.lemmas.Result.{on_ok_weaker}
use Rattle.report.specs.OutcomeList.{order_word}
use Rattle.report.proofs.OutcomeList.{four_joined}
use Rattle.report.proofs.outcome_list.push_reported.Goals as goal

pub returns : goal.returns
returns g c = on_ok_weaker c.push_bytes-3.result (λ last.
    four_joined _ _ _ _ _ _ _ _ _ c.in_ok-push_bytes.ensures
    (c.in_ok-push_order.ensures ∙ ap (λ o. c.push_bytes.new.report.items ++ order_word o) c.as_slice.ensures)
    c.in_ok-push_bytes-2.ensures
    (last ∙ ap (λ r. c.push_bytes-2.new.report.items ++ r) (c.as_slice-2.ensures.value ∙ c.in_ok-report.ensures))) c.push_bytes-3.ensures
