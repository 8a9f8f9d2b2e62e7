-- (the prover finds these unwritten too; where they are written, it refuses a wrong body sooner)
use Rattle.std.proofs.Common.{rules}
use Rattle.norec_core.proofs.steps.CoreSteps.operation_access.Goals as goal

pub returns-in-Release : goal.returns-in-Release
returns-in-Release g c = search rules
