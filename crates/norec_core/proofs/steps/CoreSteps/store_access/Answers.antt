-- (the prover finds these unwritten too; where they are written, it refuses a wrong body sooner)
use Rattle.std.proofs.Common.{rules}
use Rattle.norec_core.proofs.steps.CoreSteps.store_access.Goals as goal

pub returns-in-None : goal.returns-in-None
returns-in-None g c = search rules
