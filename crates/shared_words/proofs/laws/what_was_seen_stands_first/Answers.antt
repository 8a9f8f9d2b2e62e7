use Rattle.shared_words.proofs.InTime.{in_time_says}
use Rattle.shared_words.proofs.laws.what_was_seen_stands_first.Goals as goal

pub returns : goal.returns
returns c = in_time_says
