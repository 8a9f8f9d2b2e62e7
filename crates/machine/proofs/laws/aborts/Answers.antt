use Rattle.machine.proofs.single.Aborts.{abort_reason}
use Rattle.machine.proofs.single.Holders.{never_dropped}
use Rattle.machine.proofs.laws.aborts.Goals as goal

pub returns-clause-changed : goal.returns-clause-changed
returns-clause-changed g c code th a lock words e gone none = abort_reason code th a lock words e gone none

pub returns-clause-holders : goal.returns-clause-holders
returns-clause-holders g c code init bounds m0 threads steps fits is_memory = never_dropped code init bounds m0 is_memory fits threads steps
