use Rattle.syntax.proofs.typing.Called.{called_are_defined, bodies_are_typed}
use Rattle.syntax.proofs.scope_laws.called_functions_are_defined.Goals as goal

pub returns : goal.returns
returns c = record { defined = called_are_defined; typed = bodies_are_typed }
