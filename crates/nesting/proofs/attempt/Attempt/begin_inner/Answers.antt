use Rattle.std.proofs.Common.{arith}
use Rattle.nesting.proofs.CheckpointLists.{after_begin}
use Rattle.nesting.proofs.attempt.Attempt.begin_inner.Goals as goal

pub returns-clause-inner : goal.returns-clause-inner
returns-clause-inner g c =
    let room = rw (← c.self.view_is) at c.requires in
    rw (c.swap_aside.ensures.there, c.mark.ensures.marks, ← c.self.view_is) (after_begin c.self.inside.depth c.self.inside.inner.items c.self.inside.writes.marks _ _ (omega arith) c.self.invariant.1)
