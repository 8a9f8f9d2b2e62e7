-- (the prover finds these unwritten too; where they are written, it refuses a wrong body sooner)
use Rattle.std.proofs.Common.{rules}
use Rattle.nesting.proofs.attempt.Attempt.prepare_read.Goals as goal

pub returns-clause-room : goal.returns-clause-room
returns-clause-room g c = search rules
