use Rattle.std.proofs.Common.{◌∙◌, ◌++◌, ap}
use Rattle.std.proofs.lemmas.Result.{on_ok_weaker}
use Rattle.report.proofs.OutcomeList.{three_joined}
use Rattle.report.proofs.properties.push_order_of.Goals as goal

pub returns : goal.returns
returns g c = on_ok_weaker c.push_reported.result (λ last.
    three_joined _ _ _ _ _ _ _ c.in_ok-push_bytes.ensures
    (c.in_ok-push_bytes-2.ensures ∙ ap (λ bs. c.push_bytes.new.report.items ++ bs) c.as_bytes.ensures.value)
    last) c.push_reported.ensures
