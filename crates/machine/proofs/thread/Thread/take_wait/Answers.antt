use Rattle.std.proofs.Common.{◌∙◌, ap}
use Rattle.machine.proofs.contexts.Calls.{runs_of}
use Rattle.machine.proofs.contexts.Seen.{thread_of}
use Rattle.machine.specs.States.{ThreadState}
use Rattle.machine.specs.inner.Contexts.{context_of}
use Rattle.machine.proofs.thread.Thread.take_wait.Goals as goal

pub take_wait-requires-clause-runs : goal.take_wait-requires-clause-runs
take_wait-requires-clause-runs g c =
    let k = context_of {A = g.row.A.Denot} c.self.inside.context in
    runs_of c.args.code.now k c.args.self.now.thread (ap (λ (s : ThreadState). s.thread) c.self.view_is) c.self.invariant
    (ap (λ (s : ThreadState). s.thread.status) c.self.view_is ∙ c.requires.waits.running) c.requires.of

pub returns-clause-of : goal.returns-clause-of
returns-clause-of g c = thread_of c.args.code.now c.requires.of.valid _ c.take_wait.ensures.makes.of
