use Rattle.machine.proofs.runs.Drops.{drops_are_bounded, drops_come_after_takings}
use Rattle.machine.proofs.laws.drops_are_bounded.Goals as goal

pub returns-clause-bounded : goal.returns-clause-bounded
returns-clause-bounded g c code init bounds m0 threads steps fits is_memory = drops_are_bounded code init bounds m0 is_memory fits threads steps

pub returns-clause-after_takings : goal.returns-clause-after_takings
returns-clause-after_takings g c code init bounds m0 threads steps fits is_memory = drops_come_after_takings code init bounds m0 is_memory fits threads steps
