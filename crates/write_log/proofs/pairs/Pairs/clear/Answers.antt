-- (the prover finds these unwritten too; where they are written, it refuses a wrong body sooner)
use Rattle.std.proofs.Common.{rules}
use Rattle.write_log.proofs.pairs.Pairs.clear.Goals as goal

pub invariant_of-self : goal.invariant_of-self
invariant_of-self g c = search rules

pub returns-clause-pairs : goal.returns-clause-pairs
returns-clause-pairs g c = search rules
