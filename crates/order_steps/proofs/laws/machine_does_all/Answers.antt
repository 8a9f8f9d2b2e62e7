use Rattle.order_steps.proofs.Sourced.{machine_does_all}
use Rattle.order_steps.proofs.laws.machine_does_all.Goals as goal

pub returns : goal.returns
returns g c code init = machine_does_all code init
