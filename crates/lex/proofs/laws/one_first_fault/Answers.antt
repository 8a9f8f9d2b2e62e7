use Rattle.lex.proofs.unique.Ways.{one_fault_law}
use Rattle.lex.proofs.laws.one_first_fault.Goals as goal

pub returns : goal.returns
returns c = one_fault_law
