use Rattle.order_steps.proofs.Turns.{gets_on}
use Rattle.order_steps.proofs.laws.turns_are_steps.Goals as goal

pub returns : goal.returns
returns g c code bounds fits = gets_on code bounds fits
