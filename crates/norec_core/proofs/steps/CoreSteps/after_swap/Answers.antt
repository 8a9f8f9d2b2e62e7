-- (the prover finds these unwritten too; where they are written, it refuses a wrong body sooner)
use Rattle.std.proofs.Common.{rules}
use Rattle.norec_core.proofs.steps.CoreSteps.after_swap.Goals as goal

pub returns : goal.returns
returns g c = search rules
