use Rattle.report.proofs.OutcomeList.{three_listed}
use Rattle.report.proofs.fair.open_text.Goals as goal

pub returns : goal.returns
returns g c = three_listed _ _ _ _ _ _ _ c.new-line.ensures.items c.in_ok-push_bytes.ensures c.in_ok-push_number.ensures c.in_ok-push_walk_words.ensures
