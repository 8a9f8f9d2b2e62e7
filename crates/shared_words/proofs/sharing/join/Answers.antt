use Rattle.std.proofs.Common.{rules}
use Rattle.shared_words.proofs.Moves.{joins}
use Rattle.shared_words.proofs.sharing.join.Goals as goal

pub join_seat-requires : goal.join_seat-requires
join_seat-requires g c = (search rules, search rules, search rules, search rules, joins c.args.words.now.key _ _ _ _)
