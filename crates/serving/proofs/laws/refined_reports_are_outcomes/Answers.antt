use Rattle.serving.proofs.EveryRun.{are_outcomes}
use Rattle.serving.proofs.laws.refined_reports_are_outcomes.Goals as goal

pub returns : goal.returns
returns c = are_outcomes c.one_list_of_tokens.ensures c.one_tree.ensures
