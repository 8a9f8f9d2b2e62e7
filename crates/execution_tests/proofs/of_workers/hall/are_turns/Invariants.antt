use Rattle.workers.specs.Workers.{AreWorkersOf}
use Rattle.execution_tests.proofs.of_workers.hall.are_turns.Given as goal

abbrev pub invariant-turns : goal.invariant-turns
invariant-turns g l = AreWorkersOf l.hall.table.shared.table_id l.hall.setup l.workers.items
