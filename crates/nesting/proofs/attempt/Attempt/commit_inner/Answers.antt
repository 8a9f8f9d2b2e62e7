use Rattle.std.proofs.Common.{arith}
use Rattle.nesting.proofs.CheckpointLists.{after_commit, counts_begins}
use Rattle.nesting.proofs.attempt.Attempt.commit_inner.Goals as goal

pub returns-clause-inner : goal.returns-clause-inner
returns-clause-inner g c =
    let count = counts_begins c.self.inside.depth c.self.inside.inner.items c.self.inside.writes.marks (omega arith) c.self.invariant.1 in
    let begun = rw (← c.self.view_is) at c.requires in
    rw (← c.self.view_is) (after_commit c.self.inside.depth c.self.inside.inner.items c.self.inside.writes.marks (omega arith) (omega arith) c.self.invariant.1)
