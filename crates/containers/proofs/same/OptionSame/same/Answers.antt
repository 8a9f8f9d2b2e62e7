-- (the prover finds these unwritten too; where they are written, it refuses a wrong body sooner)
use Rattle.std.proofs.Common.{rules}
use Rattle.containers.proofs.same.OptionSame.same.Goals as goal

pub returns-in_default : goal.returns-in_default
returns-in_default g c = search rules

pub returns-in_default-2 : goal.returns-in_default-2
returns-in_default-2 g c = search rules
