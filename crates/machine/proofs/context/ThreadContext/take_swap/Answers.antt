use Rattle.std.proofs.Common.{refl, ap, ◌∙◌}
use Rattle.bytecode.specs.Code.{effect}
use Rattle.frames.specs.Open.{begin_configuration}
use Rattle.frames.proofs.Keeping.{begins_stay_open}
use Rattle.norec_core.specs.declared.step.OpOutcome.{OpOutcome}
use Rattle.norec_core.proofs.Committing.{swap_goes_on}
use Rattle.machine.specs.Threads.{resume}
use Rattle.machine.proofs.contexts.Committing.{swap_back, swap_makes}
use Rattle.machine.specs.inner.Contexts.{back_by, context_of}
use Rattle.machine.proofs.context.ThreadContext.take_swap.Goals as goal

pub resume-requires-clause-back : goal.resume-requires-clause-back
resume-requires-clause-back g c =
    let k = context_of {A = g.row.A.Denot} c.args.self.now in
    swap_back c.args.code.now (begins_stay_open c.args.code.now c.requires.valid) k c.requires.running c.requires.runs c.requires.tells c.args.from c.requires.swaps c.args.answer c.take_swap-outcome.new.self.saved c.take_swap-outcome.result c.take_swap-outcome.ensures.outcome c.take_swap-outcome.ensures.back

pub returns-clause-makes : goal.returns-clause-makes
returns-clause-makes g c =
    let k = context_of {A = g.row.A.Denot} c.args.self.now in
    swap_makes c.args.code.now (begins_stay_open c.args.code.now c.requires.valid) k c.requires.running c.requires.runs c.requires.tells c.args.from c.requires.swaps c.args.answer
    _ c.take_swap-outcome.result _ c.take_swap-outcome.ensures.outcome c.take_swap-outcome.ensures.attempt c.take_swap-outcome.ensures.back
    (record { configuration = c.resume.ensures.configuration; status = c.resume.ensures.status; trapping = refl; text = refl; event = c.resume.ensures.event })

pub returns-clause-still : goal.returns-clause-still
returns-clause-still g c =
    let k = context_of {A = g.row.A.Denot} c.args.self.now in
    let x = effect c.args.code.now k.configuration in
    c.resume.ensures.configuration ∙ ap (λ (o : OpOutcome). resume (effect c.args.code.now) x k.configuration o (back_by x o (begin_configuration k.configuration c.take_swap-outcome.new.self.saved)))
    (c.take_swap-outcome.ensures.outcome ∙ swap_goes_on k.core.saved k.core.attempt c.args.from c.args.answer c.requires.swaps)
