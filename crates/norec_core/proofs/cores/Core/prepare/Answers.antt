-- (the prover finds these unwritten too; where they are written, it refuses a wrong body sooner)
use Rattle.std.proofs.Common.{rules}
use Rattle.norec_core.proofs.cores.Core.prepare.Goals as goal

pub returns-then-is_err-clause-used_up : goal.returns-then-is_err-clause-used_up
returns-then-is_err-clause-used_up g c = search rules

pub invariant_of-self-2 : goal.invariant_of-self-2
invariant_of-self-2 g c = search rules

pub returns-clause-used_up : goal.returns-clause-used_up
returns-clause-used_up g c = search rules
