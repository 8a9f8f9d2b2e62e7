use Rattle.machine.proofs.single.Events.{tell}
use Rattle.machine.proofs.laws.events_tell.Goals as goal

pub returns : goal.returns
returns g c code init bounds m0 threads steps fits is_memory = tell code init bounds m0 is_memory fits threads steps
