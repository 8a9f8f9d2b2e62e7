use Rattle.std.proofs.Common.{◌-◌}
use Rattle.workers.specs.inner.Stepping.{CanStep, StepsBy}
use Rattle.machine.specs.States.{ComparesNext, StandsStill}
use Rattle.workers.proofs.worker.Worker.compare.Given as goal

abbrev pub invariant-entries : goal.invariant-entries
invariant-entries g l = record {
  can : CanStep l.words.table_id l.words.key (l.most - l.passed) l.self;
  goes_on : StepsBy l.words.table_id l.words.key l.passed l.initial.self l.self;
  compares : ComparesNext l.code l.self.thread l.time l.index;
  still : StandsStill l.code l.initial.self.thread l.self.thread;
}
