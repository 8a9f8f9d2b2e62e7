use Rattle.std.proofs.Common.{refl}
use Rattle.frames.proofs.Keeping.{begins_stay_open}
use Rattle.machine.specs.inner.Contexts.{context_of}
use Rattle.machine.proofs.contexts.Validating.{validates_makes}
use Rattle.machine.proofs.context.ThreadContext.take_validation.Goals as goal

pub returns-clause-makes : goal.returns-clause-makes
returns-clause-makes g c =
    let k = context_of {A = g.row.A.Denot} c.args.self.now in
    validates_makes c.args.code.now (begins_stay_open c.args.code.now c.requires.valid) k c.requires.running c.requires.runs c.requires.operation _ _ c.take_validation.ensures.step refl refl refl refl c.args.time c.args.index c.requires.entry
