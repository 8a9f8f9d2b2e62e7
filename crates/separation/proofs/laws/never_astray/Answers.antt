use Rattle.separation.proofs.NeverAstray.{never_astray as the_law}
use Rattle.separation.proofs.laws.never_astray.Goals as goal

pub returns : goal.returns
returns c = the_law
