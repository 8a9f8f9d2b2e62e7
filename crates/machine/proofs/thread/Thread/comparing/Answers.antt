use Rattle.std.proofs.Common.{ap}
use Rattle.machine.proofs.contexts.Nexts.{no_comparison}
use Rattle.machine.specs.States.{ThreadState}
use Rattle.machine.specs.inner.Contexts.{context_of}
use Rattle.machine.proofs.thread.Thread.comparing.Goals as goal

pub returns-then-is_validated-clause-none : goal.returns-then-is_validated-clause-none
returns-then-is_validated-clause-none g c =
    no_comparison (context_of {A = g.row.A.Denot} c.self.inside.context) c.args.self.now (ap (λ (s : ThreadState). s.thread) c.self.view_is) c.args.code.now _ c.comparing.ensures.none
