use Rattle.std.proofs.Common.{arith, rules}
use Rattle.std.proofs.lemmas.List.{length-take-le}
use Rattle.nesting.proofs.CheckpointLists.{after_cancel, counts_begins}
use Rattle.nesting.proofs.attempt.Attempt.back_to.Goals as goal

pub back_to-requires : goal.back_to-requires
back_to-requires g c =
    let count = counts_begins c.self.inside.depth c.self.inside.inner.items c.self.inside.writes.marks (omega arith) c.self.invariant.1 in
    let begun = rw (← c.self.view_is) at c.requires in
    let marked = c.self.invariant.1 in
    omega arith

pub index_mut-requires : goal.index_mut-requires
index_mut-requires g c =
    let count = counts_begins c.self.inside.depth c.self.inside.inner.items c.self.inside.writes.marks (omega arith) c.self.invariant.1 in
    let begun = rw (← c.self.view_is) at c.requires in
    omega arith

pub returns-clause-back : goal.returns-clause-back
returns-clause-back g c =
    let count = counts_begins c.self.inside.depth c.self.inside.inner.items c.self.inside.writes.marks (omega arith) c.self.invariant.1 in
    let begun = rw (← c.self.view_is) at c.requires in
    rw (c.swap_aside.ensures.aside, c.back_to.ensures.marks, ← c.self.view_is, ← count)
    (after_cancel c.self.inside.depth c.args.depth c.self.inside.inner.items c.self.inside.writes.marks _ _ _ (omega arith) (omega arith) c.self.invariant.1 c.index_mut.ensures.value c.back_to.ensures.pairs)

pub returns-clause-reads : goal.returns-clause-reads
returns-clause-reads g c = search rules

pub invariant_of-self : goal.invariant_of-self
invariant_of-self g c =
    let count = counts_begins c.self.inside.depth c.self.inside.inner.items c.self.inside.writes.marks (omega arith) c.self.invariant.1 in
    let begun = rw (← c.self.view_is) at c.requires in
    let marked = c.self.invariant.1 in
    let left = length-take-le c.args.depth c.self.inside.writes.marks (omega arith) in
    (omega arith, rw (c.back_to.ensures.marks, left) (omega arith))
