-- (the prover finds these unwritten too; where they are written, it refuses a wrong body sooner)
use Rattle.std.proofs.Common.{rules}
use Rattle.norec_core.proofs.steps.CoreSteps.take_equal.Goals as goal

pub returns-clause-attempt : goal.returns-clause-attempt
returns-clause-attempt g c = search rules
