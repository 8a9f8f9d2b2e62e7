use Rattle.separation.proofs.Least.{fault_touches as the_law}
use Rattle.separation.proofs.laws.a_fault_touches.Goals as goal

pub returns : goal.returns
returns c = the_law
