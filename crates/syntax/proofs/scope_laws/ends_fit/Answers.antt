use Rattle.syntax.proofs.locals.Ends.{ends_fit as the_law}
use Rattle.syntax.proofs.scope_laws.ends_fit.Goals as goal

pub returns : goal.returns
returns c = the_law
