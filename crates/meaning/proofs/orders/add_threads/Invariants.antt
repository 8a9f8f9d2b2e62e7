use Rattle.std.proofs.Common.{◌≡◌, [], replicate}
use Rattle.meaning.specs.inner.Turns.{AreKnown, founds_in}
use Rattle.meaning.proofs.orders.add_threads.Given as goal

abbrev pub invariant-threads : goal.invariant-threads
invariant-threads g l = l.initial.threads.items ≡ [] → AreKnown l.source l.ticks 0 l.threads.items × (founds_in l.threads.items ≡ replicate l.t [])
