use Rattle.std.proofs.Common.{◌≡◌, ◌≤◌, take, map, length}
use Rattle.syntax.specs.Names.{newest}
use Rattle.meaning.specs.inner.SourceThread.{local_in}
use Rattle.meaning.proofs.source_thread.newest.Given as goal

abbrev pub decreases-locals : goal.decreases-locals
decreases-locals l = l.i

-- none of the locals that were passed has the name
abbrev pub invariant-locals : goal.invariant-locals
invariant-locals l = record { within : l.i ≤ length l.locals; value : newest (map local_in l.locals) l.name ≡ newest (map local_in (take l.i l.locals)) l.name }
