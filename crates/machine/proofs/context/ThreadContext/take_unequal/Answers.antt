use Rattle.std.proofs.Common.{refl}
use Rattle.frames.proofs.Keeping.{begins_stay_open}
use Rattle.machine.specs.inner.Contexts.{context_of}
use Rattle.machine.proofs.contexts.Validating.{drops_back, drops_makes}
use Rattle.machine.proofs.context.ThreadContext.take_unequal.Goals as goal

pub go_back-requires : goal.go_back-requires
go_back-requires g c =
    let k = context_of {A = g.row.A.Denot} c.args.self.now in
    drops_back c.args.code.now (begins_stay_open c.args.code.now c.requires.valid) k c.requires.running c.requires.runs c.requires.operation c.args.time c.args.index c.args.entry c.requires.entry c.args.word c.requires.word _ c.take_unequal.ensures.step

pub returns : goal.returns
returns g c =
    let k = context_of {A = g.row.A.Denot} c.args.self.now in
    drops_makes c.args.code.now (begins_stay_open c.args.code.now c.requires.valid) k c.requires.running c.requires.runs c.requires.operation c.args.time c.args.index c.args.entry c.requires.entry c.args.word c.requires.word _ c.take_unequal.ensures.step c.go_back.ensures refl refl refl
