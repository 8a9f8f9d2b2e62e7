use Rattle.machine.proofs.runs.Strict.{records_are_later}
use Rattle.machine.proofs.laws.later_records_have_later_snapshots.Goals as goal

pub returns : goal.returns
returns g c code init bounds m0 threads ts us fits is_memory = records_are_later code init bounds m0 is_memory fits threads ts us
