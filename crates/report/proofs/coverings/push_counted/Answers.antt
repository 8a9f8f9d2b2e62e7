use Rattle.std.proofs.Common.{◌∙◌, ◌++◌, ap}
use Rattle.std.proofs.lemmas.Result.{on_ok_weaker}
use Rattle.report.proofs.OutcomeList.{four_joined}
use Rattle.report.proofs.coverings.push_counted.Goals as goal

pub returns : goal.returns
returns g c = on_ok_weaker c.push_number.result (λ last.
    four_joined _ _ _ _ _ _ _ _ _ c.in_ok-push_bytes.ensures
    (c.in_ok-push_bytes-2.ensures ∙ ap (λ bs. c.push_bytes.new.report.items ++ bs) c.as_bytes.ensures.value)
    c.in_ok-push_bytes-3.ensures last) c.push_number.ensures
