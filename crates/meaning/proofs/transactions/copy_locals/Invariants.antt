use Rattle.std.proofs.Common.{◌≡◌, take, map}
use Rattle.meaning.specs.inner.SourceThread.{local_in, items_in}
use Rattle.meaning.proofs.transactions.copy_locals.Given as goal

abbrev pub invariant-locals : goal.invariant-locals
invariant-locals g l = items_in l.mine ≡ map local_in (take l.l-index l.locals)
