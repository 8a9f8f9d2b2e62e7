use Rattle.std.proofs.Common.{◌≡◌, ◌+◌}
use Rattle.workers.specs.Workers.{IsWorkerOf, StepsOn}
use Rattle.workers.proofs.run.drive_free.Given as goal

abbrev pub invariant-slices : goal.invariant-slices
invariant-slices g l = record {
  worker : IsWorkerOf l.hall.table.shared.table_id l.hall.setup l.worker;
  steps : l.worker.steps + l.left ≡ l.initial.worker.steps + l.budget;
  number : l.worker.number ≡ l.initial.worker.number;
  goes_on : StepsOn l.hall.table.shared.table_id l.hall.setup l.initial.worker l.worker;
}

abbrev pub decreases-slices : goal.decreases-slices
decreases-slices g l = l.left
