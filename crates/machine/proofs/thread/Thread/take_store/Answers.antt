use Rattle.std.proofs.Common.{◌∙◌, ap, subst, sym, rules}
use Rattle.std.specs.Prelude.{IsSomeAnd}
use Rattle.norec_core.specs.Cores.{IsStoring}
use Rattle.norec_core.specs.declared.step.Answer.TheVariants.{Done}
use Rattle.machine.proofs.contexts.Calls.{runs_of}
use Rattle.machine.proofs.contexts.Committing.{core_is_storing}
use Rattle.machine.proofs.contexts.Seen.{thread_of}
use Rattle.machine.specs.States.{ThreadState}
use Rattle.machine.specs.inner.Contexts.{context_of}
use Rattle.machine.proofs.thread.Thread.take_store.Goals as goal

pub take_store-event-requires-clause-runs : goal.take_store-event-requires-clause-runs
take_store-event-requires-clause-runs g c =
    let k = context_of {A = g.row.A.Denot} c.self.inside.context in
    runs_of c.args.code.now k c.args.self.now.thread (ap (λ (s : ThreadState). s.thread) c.self.view_is) c.self.invariant
    (ap (λ (s : ThreadState). s.thread.status) c.self.view_is ∙ c.requires.stores.running) c.requires.of

pub take_store-event-requires-clause-stores : goal.take_store-event-requires-clause-stores
take_store-event-requires-clause-stores g c =
    core_is_storing c.self.inside.context.frames.configuration c.args.index c.self.inside.context.core.attempt
    (subst (λ (s : ThreadState). IsSomeAnd s.thread.attempt (λ a. IsStoring c.args.index a)) (sym c.self.view_is) c.requires.stores.stores)

pub returns-clause-of : goal.returns-clause-of
returns-clause-of g c = thread_of c.args.code.now c.requires.of.valid _ (c.take_store-event.ensures.makes Done).of

pub invariant_of-self : goal.invariant_of-self
invariant_of-self g c = (c.take_store-event.ensures.makes Done).within

pub returns-clause-again : goal.returns-clause-again
returns-clause-again g c = search rules
