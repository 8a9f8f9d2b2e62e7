use Rattle.serving.proofs.EveryRun.{hold_in_reports}
use Rattle.serving.proofs.laws.properties_hold_in_reports.Goals as goal

pub returns : goal.returns
returns c = hold_in_reports c.one_list_of_tokens.ensures c.one_tree.ensures
