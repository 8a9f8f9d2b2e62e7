use Rattle.std.proofs.Common.{refl, ap, ◌∙◌}
use Rattle.bytecode.specs.Code.{effect}
use Rattle.frames.specs.Open.{begin_configuration}
use Rattle.frames.proofs.Keeping.{begins_stay_open}
use Rattle.norec_core.specs.declared.step.Answer.TheVariants.{Done}
use Rattle.norec_core.specs.declared.step.OpOutcome.{OpOutcome}
use Rattle.machine.specs.Threads.{resume}
use Rattle.machine.proofs.contexts.Committing.{store_back, store_makes}
use Rattle.machine.specs.inner.Contexts.{back_by, context_of}
use Rattle.machine.proofs.context.ThreadContext.take_store.Goals as goal

pub resume-event-requires-clause-back : goal.resume-event-requires-clause-back
resume-event-requires-clause-back g c =
    let k = context_of {A = g.row.A.Denot} c.args.self.now in
    store_back c.args.code.now (begins_stay_open c.args.code.now c.requires.valid) k c.requires.running c.requires.runs c.requires.tells c.args.index c.requires.stores Done c.take_store-outcome.new.self.saved c.take_store-outcome.result (c.take_store-outcome.ensures.outcome Done)

pub returns-clause-makes : goal.returns-clause-makes
returns-clause-makes g c = λ answer.
    let k = context_of {A = g.row.A.Denot} c.args.self.now in
    store_makes c.args.code.now (begins_stay_open c.args.code.now c.requires.valid) k c.requires.running c.requires.runs c.requires.tells c.args.index c.requires.stores answer
    _ c.take_store-outcome.result _ (c.take_store-outcome.ensures.outcome answer) (c.take_store-outcome.ensures.attempt answer)
    (record { configuration = c.resume-event.ensures.configuration; status = c.resume-event.ensures.status; trapping = refl; text = refl; event = c.resume-event.ensures.event })

pub returns-clause-again : goal.returns-clause-again
returns-clause-again g c = λ e.
    let k = context_of {A = g.row.A.Denot} c.args.self.now in
    let x = effect c.args.code.now k.configuration in
    c.resume-event.ensures.configuration ∙ ap (λ (o : OpOutcome). resume (effect c.args.code.now) x k.configuration o (back_by x o (begin_configuration k.configuration c.take_store-outcome.new.self.saved))) (c.goes_on.ensures e)
