use Rattle.std.proofs.Common.{◌≡◌, ◌∙◌, ap, arith}
use Rattle.norec_core.specs.Accesses.{cost}
use Rattle.bytecode.specs.Code.{effect}
use Rattle.machine.specs.Threads.{access}
use Rattle.machine.proofs.contexts.Calls.{ended_over, trapped_over, runs_of, over_makes}
use Rattle.machine.proofs.contexts.Seen.{thread_of}
use Rattle.machine.specs.States.{ThreadState}
use Rattle.machine.specs.inner.Contexts.{context_of, cost_if}
use Rattle.machine.proofs.thread.Thread.told_at.Goals as goal

pub told-requires-clause-runs : goal.told-requires-clause-runs
told-requires-clause-runs g c =
    runs_of c.args.code.now (context_of {A = g.row.A.Denot} c.self.inside.context) c.args.self.now.thread (ap (λ (s : ThreadState). s.thread) c.self.view_is) c.self.invariant c.in-Running.is c.requires.of

pub returns-in-Running-clause-of : goal.returns-in-Running-clause-of
returns-in-Running-clause-of g c = thread_of c.args.code.now c.requires.of.valid _ c.told.ensures.makes.of

pub returns-in-Ended-clause-thread : goal.returns-in-Ended-clause-thread
returns-in-Ended-clause-thread g c = (over_makes c.args.code.now (context_of {A = g.row.A.Denot} c.self.inside.context) c.args.self.now.thread (ap (λ (s : ThreadState). s.thread) c.self.view_is) c.self.invariant (ended_over _ c.in-Ended.is) c.requires.of c.args.answer).0

pub returns-in-Ended-clause-event : goal.returns-in-Ended-clause-event
returns-in-Ended-clause-event g c = (over_makes c.args.code.now (context_of {A = g.row.A.Denot} c.self.inside.context) c.args.self.now.thread (ap (λ (s : ThreadState). s.thread) c.self.view_is) c.self.invariant (ended_over _ c.in-Ended.is) c.requires.of c.args.answer).1

pub returns-in-Trapped-clause-thread : goal.returns-in-Trapped-clause-thread
returns-in-Trapped-clause-thread g c = (over_makes c.args.code.now (context_of {A = g.row.A.Denot} c.self.inside.context) c.args.self.now.thread (ap (λ (s : ThreadState). s.thread) c.self.view_is) c.self.invariant (trapped_over _ _ c.in-Trapped.is) c.requires.of c.args.answer).0

pub returns-in-Trapped-clause-event : goal.returns-in-Trapped-clause-event
returns-in-Trapped-clause-event g c = (over_makes c.args.code.now (context_of {A = g.row.A.Denot} c.self.inside.context) c.args.self.now.thread (ap (λ (s : ThreadState). s.thread) c.self.view_is) c.self.invariant (trapped_over _ _ c.in-Trapped.is) c.requires.of c.args.answer).1

pub overflow_add-self : goal.overflow_add-self
overflow_add-self g c =
    let p = ap (λ (s : ThreadState). s.prepared) c.self.view_is in
    let a = ap (λ (s : ThreadState). s.accesses) c.self.view_is in
    let e : cost_if c.self.inside.prepared ≡ cost (access (effect c.args.code.now) c.args.self.now.thread) = ap cost_if (p ∙ c.requires.prepared.access) in
    let n = c.requires.count in
    omega (arith, e, a, n, c.cost_of.ensures)

pub returns-in-Running-clause-accesses : goal.returns-in-Running-clause-accesses
returns-in-Running-clause-accesses g c =
    let p = ap (λ (s : ThreadState). s.prepared) c.self.view_is in
    let a = ap (λ (s : ThreadState). s.accesses) c.self.view_is in
    let e : cost_if c.self.inside.prepared ≡ cost (access (effect c.args.code.now) c.args.self.now.thread) = ap cost_if (p ∙ c.requires.prepared.access) in
    omega (arith, e, a, c.cost_of.ensures)

pub returns-in-Ended-clause-accesses : goal.returns-in-Ended-clause-accesses
returns-in-Ended-clause-accesses g c =
    let p = ap (λ (s : ThreadState). s.prepared) c.self.view_is in
    let a = ap (λ (s : ThreadState). s.accesses) c.self.view_is in
    let e : cost_if c.self.inside.prepared ≡ cost (access (effect c.args.code.now) c.args.self.now.thread) = ap cost_if (p ∙ c.requires.prepared.access) in
    omega (arith, e, a, c.cost_of.ensures)

pub returns-in-Trapped-clause-accesses : goal.returns-in-Trapped-clause-accesses
returns-in-Trapped-clause-accesses g c =
    let p = ap (λ (s : ThreadState). s.prepared) c.self.view_is in
    let a = ap (λ (s : ThreadState). s.accesses) c.self.view_is in
    let e : cost_if c.self.inside.prepared ≡ cost (access (effect c.args.code.now) c.args.self.now.thread) = ap cost_if (p ∙ c.requires.prepared.access) in
    omega (arith, e, a, c.cost_of.ensures)
