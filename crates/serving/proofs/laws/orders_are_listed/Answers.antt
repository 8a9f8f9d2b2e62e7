use Rattle.serving.proofs.ListedOutcomes.{are_listed}
use Rattle.serving.proofs.laws.orders_are_listed.Goals as goal

pub returns : goal.returns
returns c = are_listed c.one_list_of_tokens.ensures c.one_tree.ensures
