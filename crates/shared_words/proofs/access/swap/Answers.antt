use Rattle.std.proofs.Common.{rules}
use Rattle.shared_words.proofs.Keeps.{swaps}
use Rattle.shared_words.proofs.access.swap.Goals as goal

pub compare_exchange-requires : goal.compare_exchange-requires
compare_exchange-requires g c = (search rules, search rules, swaps c.args.words.now.key _ _ _ _ c.requires.next.0 c.requires.next.1 (c.requires.next.2, c.requires.goes_on))
