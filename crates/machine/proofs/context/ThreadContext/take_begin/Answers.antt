use Rattle.std.proofs.Common.{refl}
use Rattle.frames.proofs.Keeping.{begins_stay_open}
use Rattle.machine.proofs.contexts.Committing.{begin_back, begin_makes}
use Rattle.machine.specs.inner.Contexts.{context_of}
use Rattle.machine.proofs.context.ThreadContext.take_begin.Goals as goal

pub resume-requires-clause-back : goal.resume-requires-clause-back
resume-requires-clause-back g c =
    let k = context_of {A = g.row.A.Denot} c.args.self.now in
    begin_back c.args.code.now (begins_stay_open c.args.code.now c.requires.valid) k c.args.to c.requires.running c.requires.runs c.requires.tells c.requires.none c.requires.saved c.args.lock c.take_begin-outcome.new.self.saved c.take_begin-outcome.result c.take_begin-outcome.ensures.outcome

pub returns : goal.returns
returns g c =
    let k = context_of {A = g.row.A.Denot} c.args.self.now in
    begin_makes c.args.code.now (begins_stay_open c.args.code.now c.requires.valid) k c.args.to c.requires.running c.requires.runs c.requires.tells c.requires.none c.requires.saved c.args.lock
    _ c.take_begin-outcome.result _ c.take_begin-outcome.ensures.outcome c.take_begin-outcome.ensures.attempt
    (record { configuration = c.resume.ensures.configuration; status = c.resume.ensures.status; trapping = refl; text = refl; event = c.resume.ensures.event })
