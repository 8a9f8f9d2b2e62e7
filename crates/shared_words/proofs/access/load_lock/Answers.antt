use Rattle.std.proofs.Common.{rules}
use Rattle.shared_words.proofs.Keeps.{loads_lock}
use Rattle.shared_words.proofs.access.load_lock.Goals as goal

pub load-requires : goal.load-requires
load-requires g c = (search rules, search rules, loads_lock c.args.words.now.key _ _ _ c.requires.next.0 c.requires.next.1 c.requires.next.2)
