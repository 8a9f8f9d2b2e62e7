use Rattle.safety.proofs.Greatest.{the_law}
use Rattle.safety.proofs.laws.safe_functions_are_a_safe_set.Goals as goal

pub returns : goal.returns
returns c = the_law
