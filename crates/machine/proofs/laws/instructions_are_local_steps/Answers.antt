use Rattle.machine.proofs.contexts.Advancing.{replays_local}
use Rattle.machine.proofs.laws.instructions_are_local_steps.Goals as goal

pub returns : goal.returns
returns c code th n d running steps = replays_local code th running n d steps
