use Rattle.order_steps.proofs.Determined.{turns_are_determined}
use Rattle.order_steps.proofs.laws.turns_are_determined.Goals as goal

pub returns : goal.returns
returns g c code init = turns_are_determined code init
