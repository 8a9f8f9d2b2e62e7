use Rattle.std.proofs.lemmas.Result.{on_ok_weaker}
use Rattle.report.proofs.OutcomeList.{two_joined}
use Rattle.report.proofs.coverings.push_open.Goals as goal

pub returns : goal.returns
returns g c = on_ok_weaker c.push_stop.result (λ last. two_joined _ _ _ _ _ c.in_ok-push_counted.ensures last) c.push_stop.ensures
