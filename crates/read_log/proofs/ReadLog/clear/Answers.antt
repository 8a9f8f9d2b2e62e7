-- (the prover finds these unwritten too; where they are written, it refuses a wrong body sooner)
use Rattle.std.proofs.Common.{rules}
use Rattle.read_log.proofs.ReadLog.clear.Goals as goal

pub returns-clause-pairs : goal.returns-clause-pairs
returns-clause-pairs g c = search rules

pub returns-clause-room : goal.returns-clause-room
returns-clause-room g c = search rules
