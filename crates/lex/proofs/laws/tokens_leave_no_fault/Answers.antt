use Rattle.lex.proofs.unique.Ways.{no_fault_law}
use Rattle.lex.proofs.laws.tokens_leave_no_fault.Goals as goal

pub returns : goal.returns
returns c = no_fault_law
