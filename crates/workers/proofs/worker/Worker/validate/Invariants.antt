use Rattle.std.proofs.Common.{◌≤◌, ◌-◌}
use Rattle.workers.specs.inner.Stepping.{CanStep, StepsBy}
use Rattle.machine.specs.States.{StandsAt}
use Rattle.workers.proofs.worker.Worker.validate.Given as goal

abbrev pub invariant-steps : goal.invariant-steps
invariant-steps g l = record {
  few : l.left ≤ l.most;
  can : CanStep l.words.table_id l.words.key l.left l.self;
  goes_on : StepsBy l.words.table_id l.words.key (l.most - l.left) l.initial.self l.self;
  stands : StandsAt l.code l.self.thread l.doing;
}

abbrev pub decreases-steps : goal.decreases-steps
decreases-steps g l = l.left
