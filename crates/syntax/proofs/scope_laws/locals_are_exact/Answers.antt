use Rattle.syntax.proofs.locals.ExactLocals.{locals_exact as the_law}
use Rattle.syntax.proofs.scope_laws.locals_are_exact.Goals as goal

pub returns : goal.returns
returns c = the_law
