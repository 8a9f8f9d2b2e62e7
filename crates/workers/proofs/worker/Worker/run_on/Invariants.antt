use Rattle.std.proofs.Common.{◌≤◌, ◌-◌}
use Rattle.workers.specs.inner.Stepping.{CanStep, StepsBy}
use Rattle.workers.proofs.worker.Worker.run_on.Given as goal

abbrev pub invariant-turns : goal.invariant-turns
invariant-turns g l = record {
  few : l.left ≤ l.budget;
  can : CanStep l.hall.table.shared.table_id l.hall.setup l.left l.self;
  goes_on : StepsBy l.hall.table.shared.table_id l.hall.setup (l.budget - l.left) l.initial.self l.self;
}

abbrev pub decreases-turns : goal.decreases-turns
decreases-turns g l = l.left
