use Rattle.separation.proofs.Least.{least_is_touching as the_law}
use Rattle.separation.proofs.laws.touching_functions_are_a_touching_set.Goals as goal

pub returns : goal.returns
returns c = the_law
