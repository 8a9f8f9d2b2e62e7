use Rattle.std.proofs.Common.{◌∙◌, ap}
use Rattle.machine.proofs.contexts.Calls.{runs_of}
use Rattle.machine.proofs.contexts.Committing.{core_has_none}
use Rattle.machine.proofs.contexts.Seen.{thread_of}
use Rattle.machine.specs.States.{ThreadState}
use Rattle.machine.specs.inner.Contexts.{context_of}
use Rattle.machine.proofs.thread.Thread.take_begin.Goals as goal

pub take_begin-event-requires-clause-runs : goal.take_begin-event-requires-clause-runs
take_begin-event-requires-clause-runs g c =
    let k = context_of {A = g.row.A.Denot} c.self.inside.context in
    runs_of c.args.code.now k c.args.self.now.thread (ap (λ (s : ThreadState). s.thread) c.self.view_is) c.self.invariant
    (ap (λ (s : ThreadState). s.thread.status) c.self.view_is ∙ c.requires.begins.running) c.requires.of

pub take_begin-event-requires-clause-none : goal.take_begin-event-requires-clause-none
take_begin-event-requires-clause-none g c = core_has_none c.self.inside.context.frames.configuration c.self.inside.context.core.attempt (ap (λ (s : ThreadState). s.thread.attempt) c.self.view_is ∙ c.requires.begins.attempt)

pub returns-clause-of : goal.returns-clause-of
returns-clause-of g c = thread_of c.args.code.now c.requires.of.valid _ c.take_begin-event.ensures.of
