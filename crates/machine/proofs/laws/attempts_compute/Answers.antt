use Rattle.machine.proofs.runs.Computes.{all_compute}
use Rattle.machine.proofs.laws.attempts_compute.Goals as goal

pub returns : goal.returns
returns g c code init bounds m0 threads steps fits is_memory = all_compute code init bounds m0 is_memory fits threads steps
