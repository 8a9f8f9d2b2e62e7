use Rattle.std.proofs.Common.{rules}
use Rattle.shared_words.proofs.Moves.{meets}
use Rattle.shared_words.proofs.sharing.floor.Goals as goal

pub load-requires : goal.load-requires
load-requires g c = (search rules, search rules, meets c.args.words.now.key _ _ _)
