use Rattle.machine.proofs.tallies.Spans.{counts_by_meaning}
use Rattle.machine.proofs.laws.accesses_are_tallied.Goals as goal

pub returns : goal.returns
returns g c code init bounds m0 threads steps t fits is_memory = counts_by_meaning code init bounds m0 is_memory fits threads steps t
