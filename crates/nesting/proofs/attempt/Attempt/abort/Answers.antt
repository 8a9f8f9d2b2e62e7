-- (the prover finds these unwritten too; where they are written, it refuses a wrong body sooner)
use Rattle.std.proofs.Common.{rules}
use Rattle.nesting.proofs.attempt.Attempt.abort.Goals as goal

pub returns-clause-back : goal.returns-clause-back
returns-clause-back g c = search rules
