use Rattle.shared_words.proofs.Saying.{says}
use Rattle.shared_words.proofs.laws.the_rule_is_explained.Goals as goal

pub returns : goal.returns
returns c = says
