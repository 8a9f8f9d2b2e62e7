use Rattle.std.proofs.Common.{rules}
use Rattle.shared_words.proofs.Keeps.{stores_lock}
use Rattle.shared_words.proofs.access.store_lock.Goals as goal

pub store-requires : goal.store-requires
store-requires g c = (search rules, search rules, stores_lock c.args.words.now.key _ _ _ _ c.requires.next.0 c.requires.next.1 c.requires.next.2)
