-- (the prover finds these unwritten too; where they are written, it refuses a wrong body sooner)
use Rattle.std.proofs.Common.{rules}
use Rattle.report.proofs.report.push_memory.Goals as goal

pub returns-in-Some : goal.returns-in-Some
returns-in-Some g c = search rules
