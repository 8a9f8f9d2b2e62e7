use Rattle.std.proofs.Common.{ap, ◌∙◌}
use Rattle.machine.proofs.contexts.Calls.{lock_shown}
use Rattle.machine.specs.States.{ThreadState, thread_has_lock}
use Rattle.machine.proofs.thread.Thread.has_lock.Goals as goal

pub returns : goal.returns
returns g c = c.has_lock.ensures ∙ lock_shown c.self.inside.context.frames.configuration c.self.inside.context.core.attempt ∙ ap (λ (s : ThreadState). thread_has_lock s.thread) c.self.view_is
