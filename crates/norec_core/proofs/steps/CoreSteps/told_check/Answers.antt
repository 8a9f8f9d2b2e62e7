-- (the prover finds these unwritten too; where they are written, it refuses a wrong body sooner)
use Rattle.std.proofs.Common.{rules}
use Rattle.norec_core.proofs.steps.CoreSteps.told_check.Goals as goal

pub returns-then-lock-self : goal.returns-then-lock-self
returns-then-lock-self g c = search rules
