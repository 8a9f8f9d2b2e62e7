-- (the prover finds these unwritten too; where they are written, it refuses a wrong body sooner)
use Rattle.std.proofs.Common.{rules}
use Rattle.machine.proofs.context.cancel.Goals as goal

pub returns-in-Begin : goal.returns-in-Begin
returns-in-Begin g c = search rules
