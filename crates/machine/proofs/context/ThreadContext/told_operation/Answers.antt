use Rattle.std.proofs.Common.{refl, ap, ◌∙◌}
use Rattle.bytecode.specs.Code.{effect}
use Rattle.frames.specs.Open.{begin_configuration}
use Rattle.norec_core.specs.declared.step.OpOutcome.{OpOutcome}
use Rattle.machine.specs.Threads.{resume}
use Rattle.frames.proofs.Keeping.{begins_stay_open}
use Rattle.machine.proofs.contexts.Asking.{operation_answered, operation_back, operation_makes}
use Rattle.machine.specs.inner.Contexts.{context_of, ready, back_by}
use Rattle.machine.proofs.context.ThreadContext.told_operation.Goals as goal

pub told_as-outcome-requires-clause-answered : goal.told_as-outcome-requires-clause-answered
told_as-outcome-requires-clause-answered g c =
    let k = context_of {A = g.row.A.Denot} c.args.self.now in
    operation_answered c.args.code.now (begins_stay_open c.args.code.now c.requires.valid) k c.args.op c.args.answer c.requires.running c.requires.runs c.args.doing c.requires.tells c.requires.asked (ready {A = g.row.A.Denot} c.args.self.now) refl refl c.requires.ready c.requires.word c.requires.fits

pub resume-event-requires-clause-back : goal.resume-event-requires-clause-back
resume-event-requires-clause-back g c =
    let k = context_of {A = g.row.A.Denot} c.args.self.now in
    operation_back c.args.code.now (begins_stay_open c.args.code.now c.requires.valid) k c.args.op c.args.answer c.requires.running c.requires.runs c.args.doing c.requires.tells c.requires.asked (ready {A = g.row.A.Denot} c.args.self.now) refl refl c.requires.ready c.requires.word c.told_as-outcome.new.self c.told_as-outcome.result
    (record { attempt = c.told_as-outcome.ensures.attempt; outcome = c.told_as-outcome.ensures.outcome; back = c.told_as-outcome.ensures.back })

pub returns-clause-makes : goal.returns-clause-makes
returns-clause-makes g c =
    let k = context_of {A = g.row.A.Denot} c.args.self.now in
    operation_makes c.args.code.now (begins_stay_open c.args.code.now c.requires.valid) k c.args.op c.args.answer c.requires.running c.requires.runs c.args.doing c.requires.tells c.requires.asked (ready {A = g.row.A.Denot} c.args.self.now) refl refl c.requires.ready c.requires.word _ c.told_as-outcome.result _
    (record { attempt = c.told_as-outcome.ensures.attempt; outcome = c.told_as-outcome.ensures.outcome; back = c.told_as-outcome.ensures.back })
    (record { configuration = c.resume-event.ensures.configuration; status = c.resume-event.ensures.status; trapping = refl; text = refl; event = c.resume-event.ensures.event })

pub returns-clause-again : goal.returns-clause-again
returns-clause-again g c = λ e.
    let k = context_of {A = g.row.A.Denot} c.args.self.now in
    let x = effect c.args.code.now k.configuration in
    c.resume-event.ensures.configuration ∙ ap (λ (o : OpOutcome). resume (effect c.args.code.now) x k.configuration o (back_by x o (begin_configuration k.configuration c.told_as-outcome.new.self.saved))) (c.goes_on.ensures e)
