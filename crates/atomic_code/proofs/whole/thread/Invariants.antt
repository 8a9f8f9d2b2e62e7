use Rattle.std.proofs.Common.{◌-◌}
use Rattle.atomic_code.specs.Whole.{memories_in}
use Rattle.atomic_code.specs.inner.Making.{thread_of}
use Rattle.atomic_code.specs.inner.Standing.{HasComeTo}
use Rattle.atomic_code.proofs.whole.thread.Given as goal

abbrev pub invariant-turns : goal.invariant-turns
invariant-turns g l = HasComeTo l.code l.number (memories_in l.founds) l.steps l.made (memories_in l.lefts.items) (thread_of {A = g.row.A.Denot} l.context)

abbrev pub decreases-turns : goal.decreases-turns
decreases-turns g l = l.steps - l.made
