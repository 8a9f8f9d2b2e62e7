-- (the prover finds these unwritten too; where they are written, it refuses a wrong body sooner)
use Rattle.std.proofs.Common.{rules}
use Rattle.norec_core.proofs.steps.CoreSteps.take_validation.Goals as goal

pub returns-then-lock-time : goal.returns-then-lock-time
returns-then-lock-time g c = search rules
