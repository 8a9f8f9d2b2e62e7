use Rattle.std.proofs.Common.{◌-◌}
use Rattle.frames.specs.declared.doing.Doing.TheVariants as doing
use Rattle.workers.specs.inner.Stepping.{CanStep, StepsBy}
use Rattle.machine.specs.States.{StandsAt}
use Rattle.workers.proofs.worker.Worker.store_all.Given as goal

abbrev pub invariant-stores : goal.invariant-stores
invariant-stores g l = record {
  can : CanStep l.words.table_id l.words.key (l.most - l.made) l.self;
  goes_on : StepsBy l.words.table_id l.words.key l.made l.initial.self l.self;
  stands : StandsAt l.code l.self.thread doing.Commit;
}
