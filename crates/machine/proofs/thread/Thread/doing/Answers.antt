use Rattle.std.proofs.Common.{ap}
use Rattle.machine.proofs.contexts.Calls.{runs_of}
use Rattle.machine.specs.States.{ThreadState}
use Rattle.machine.specs.inner.Contexts.{context_of}
use Rattle.machine.proofs.thread.Thread.doing.Goals as goal

pub doing-requires : goal.doing-requires
doing-requires g c =
    let runs = runs_of c.args.code.now (context_of {A = g.row.A.Denot} c.self.inside.context) c.args.self.now.thread (ap (λ (s : ThreadState). s.thread) c.self.view_is) c.self.invariant c.in-Running.is c.requires in
    record { of = (_, runs.stands) }
