use Rattle.std.proofs.Common.{rules}
use Rattle.shared_words.proofs.Moves.{splits_first}
use Rattle.shared_words.proofs.sharing.split_first.Goals as goal

pub split_seat-requires : goal.split_seat-requires
split_seat-requires g c = (search rules, search rules, splits_first c.args.words.now.key _ _)
