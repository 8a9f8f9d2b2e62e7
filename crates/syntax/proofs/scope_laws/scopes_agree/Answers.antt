use Rattle.syntax.proofs.typing.Fits.{types_agree}
use Rattle.syntax.proofs.locals.ExactLocals.{scope_fits}
use Rattle.syntax.proofs.scope_laws.scopes_agree.Goals as goal

pub returns : goal.returns
returns c = record { types = types_agree; after = scope_fits }
