use Rattle.std.proofs.Common.{◌∙◌, refl, arith, rules}
use Rattle.shared_words.proofs.access.make.Goals as goal

pub load_lock-requires-clause-table : goal.load_lock-requires-clause-table
load_lock-requires-clause-table g c = let t = c.requires.table in (t.0, (let long = t.1 in omega (arith, long)))

pub load_lock-requires-clause-next : goal.load_lock-requires-clause-next
load_lock-requires-clause-next g c = let n = c.requires.next in (n.0, n.1, n.2 ∙ c.in-LoadLock.is)

pub load_word-requires-clause-next : goal.load_word-requires-clause-next
load_word-requires-clause-next g c = let n = c.requires.next in (n.0, n.1, n.2 ∙ c.in-LoadWord.is)

pub store_lock-requires-clause-table : goal.store_lock-requires-clause-table
store_lock-requires-clause-table g c = let t = c.requires.table in (t.0, (let long = t.1 in omega (arith, long)))

pub store_lock-requires-clause-next : goal.store_lock-requires-clause-next
store_lock-requires-clause-next g c = let n = c.requires.next in (n.0, n.1, n.2 ∙ c.in-StoreLock.is)

pub returns-in-StoreLock-clause-made : goal.returns-in-StoreLock-clause-made
returns-in-StoreLock-clause-made g c = rw c.in-StoreLock.is (c.in-StoreLock.value, refl, c.store_lock.ensures.took)

pub returns-else-found-from-clause-made : goal.returns-else-found-from-clause-made
returns-else-found-from-clause-made g c = search rules
