use Rattle.workers.proofs.Drives.{in_any_order}
use Rattle.execution_tests.proofs.of_workers.hall.open.Goals as goal

pub returns-in-Ok : goal.returns-in-Ok
returns-in-Ok g c = (in_any_order c.in-Ok.opened.0.table.shared.table_id c.in-Ok.opened.0.setup 0 c.in-Ok.opened.1.items c.in-Ok.ensures.workers.1).0
