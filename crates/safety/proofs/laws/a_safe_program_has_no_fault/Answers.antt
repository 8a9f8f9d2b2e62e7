use Rattle.safety.proofs.NoFault.{no_fault as the_law}
use Rattle.safety.proofs.laws.a_safe_program_has_no_fault.Goals as goal

pub returns : goal.returns
returns c = the_law
