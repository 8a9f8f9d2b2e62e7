use Rattle.std.proofs.Common.{ap}
use Rattle.machine.proofs.contexts.Nexts.{no_store}
use Rattle.machine.specs.States.{ThreadState}
use Rattle.machine.specs.inner.Contexts.{context_of}
use Rattle.machine.proofs.thread.Thread.storing.Goals as goal

pub returns-in-Running-clause-none : goal.returns-in-Running-clause-none
returns-in-Running-clause-none g c =
    no_store (context_of {A = g.row.A.Denot} c.self.inside.context) c.args.self.now (ap (λ (s : ThreadState). s.thread) c.self.view_is) _ c.storing.ensures.none
