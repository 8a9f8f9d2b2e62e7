use Rattle.std.proofs.Common.{rules}
use Rattle.shared_words.proofs.Keeps.{stores_word}
use Rattle.shared_words.proofs.access.store_word.Goals as goal

pub store-requires : goal.store-requires
store-requires g c = (search rules, search rules, stores_word c.args.words.now.key _ _ _ _ _ c.requires.next.0 c.requires.next.1 c.requires.next.2)
