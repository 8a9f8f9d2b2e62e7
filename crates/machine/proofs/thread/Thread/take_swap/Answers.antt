use Rattle.std.proofs.Common.{◌∙◌, ap, subst, sym}
use Rattle.bytecode.specs.Code.{effect}
use Rattle.frames.specs.declared.doing.Doing.TheVariants as doing
use Rattle.frames.proofs.Keeping.{begins_stay_open}
use Rattle.machine.proofs.contexts.Calls.{runs_of}
use Rattle.machine.proofs.contexts.Committing.{core_swaps}
use Rattle.machine.proofs.contexts.Seen.{thread_of}
use Rattle.machine.specs.States.{StandsAt, ThreadState}
use Rattle.machine.specs.Threads.{access}
use Rattle.machine.specs.inner.Contexts.{context_of}
use Rattle.machine.proofs.thread.Thread.take_swap.Goals as goal

pub take_swap-event-requires-clause-runs : goal.take_swap-event-requires-clause-runs
take_swap-event-requires-clause-runs g c =
    let k = context_of {A = g.row.A.Denot} c.self.inside.context in
    runs_of c.args.code.now k c.args.self.now.thread (ap (λ (s : ThreadState). s.thread) c.self.view_is) c.self.invariant
    (ap (λ (s : ThreadState). s.thread.status) c.self.view_is ∙ c.requires.swaps.running) c.requires.of

pub take_swap-event-requires-clause-swaps : goal.take_swap-event-requires-clause-swaps
take_swap-event-requires-clause-swaps g c =
    let k = context_of {A = g.row.A.Denot} c.self.inside.context in
    let law = begins_stay_open c.args.code.now c.requires.of.valid in
    let running = ap (λ (s : ThreadState). s.thread.status) c.self.view_is ∙ c.requires.swaps.running in
    let runs = runs_of c.args.code.now k c.args.self.now.thread (ap (λ (s : ThreadState). s.thread) c.self.view_is) c.self.invariant running c.requires.of in
    let tells = subst (λ (s : ThreadState). StandsAt c.args.code.now s doing.Commit) (sym c.self.view_is) c.requires.stands running in
    core_swaps c.args.code.now law k running runs tells c.args.from (ap (λ (s : ThreadState). access (effect c.args.code.now) s.thread) c.self.view_is ∙ c.requires.swaps.swap)

pub returns-clause-of : goal.returns-clause-of
returns-clause-of g c = thread_of c.args.code.now c.requires.of.valid _ c.take_swap-event.ensures.makes.of
