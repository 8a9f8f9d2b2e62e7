-- (the prover finds these unwritten too; where they are written, it refuses a wrong body sooner)
use Rattle.std.proofs.Common.{rules}
use Rattle.norec_core.proofs.steps.CoreSteps.told_begin.Goals as goal

pub returns-then-lock-eq0 : goal.returns-then-lock-eq0
returns-then-lock-eq0 g c = search rules
