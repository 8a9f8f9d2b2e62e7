-- (the prover finds these unwritten too; where they are written, it refuses a wrong body sooner)
use Rattle.std.proofs.Common.{rules}
use Rattle.nesting.proofs.attempt.Attempt.write.Goals as goal

pub returns-clause-writes : goal.returns-clause-writes
returns-clause-writes g c = search rules
