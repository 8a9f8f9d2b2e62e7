use Rattle.std.proofs.Common.{rules}
use Rattle.shared_words.proofs.Settles.{settles}
use Rattle.shared_words.proofs.sharing.settle.Goals as goal

pub compare_exchange-found-requires : goal.compare_exchange-found-requires
compare_exchange-found-requires g c = (search rules, search rules, settles c.args.words.now.key _ _ _ _ c.requires.sits)
