use Rattle.std.proofs.Common.{◌≡◌, ◌+◌}
use Rattle.workers.specs.Workers.{IsWorkerOf, StepsOn}
use Rattle.workers.proofs.run.drive_full.Given as goal

abbrev pub invariant-steps : goal.invariant-steps
invariant-steps l = record {
  worker : IsWorkerOf l.hall.table.shared.table_id l.hall.setup l.worker;
  steps : l.worker.steps ≡ l.initial.worker.steps + l.turn;
  number : l.worker.number ≡ l.initial.worker.number;
  goes_on : StepsOn l.hall.table.shared.table_id l.hall.setup l.initial.worker l.worker;
}
