use Rattle.std.proofs.Common.{arith}
use Rattle.nesting.proofs.CheckpointLists.{counts_begins}
use Rattle.nesting.proofs.attempt.Attempt.depth.Goals as goal

pub returns : goal.returns
returns g c = rw (← c.self.view_is) (counts_begins c.self.inside.depth c.self.inside.inner.items c.self.inside.writes.marks (omega arith) c.self.invariant.1)
