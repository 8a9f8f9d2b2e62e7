use Rattle.machine.proofs.runs.OneOrder.{one_order}
use Rattle.machine.proofs.laws.attempts_stand_in_one_order.Goals as goal

pub returns : goal.returns
returns g c code init bounds m0 threads steps fits is_memory = one_order code init bounds m0 is_memory fits threads steps
