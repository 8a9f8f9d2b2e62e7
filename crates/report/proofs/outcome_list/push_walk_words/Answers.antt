use Rattle.std.specs.Prelude.{decimal}
use Rattle.std.proofs.Common.{◌∙◌, ◌++◌, ap}
use Rattle.std.proofs.lemmas.Result.{on_ok_weaker}
use Rattle.report.proofs.OutcomeList.{three_joined}
use Rattle.report.proofs.outcome_list.push_walk_words.Goals as goal

pub returns : goal.returns
returns g c = on_ok_weaker c.push_stop.result (λ last.
    three_joined _ _ _ _ _ _ _ c.in_ok-push_bytes.ensures
    (c.in_ok-push_number.ensures ∙ ap (λ n. c.push_bytes.new.report.items ++ decimal n) c.from.ensures) last) c.push_stop.ensures
