use Rattle.std.proofs.Common.{◌-◌}
use Rattle.frames.specs.declared.doing.Doing.TheVariants as doing
use Rattle.workers.specs.inner.Stepping.{CanStep, StepsBy}
use Rattle.machine.specs.States.{StandsAt}
use Rattle.workers.proofs.worker.Worker.begin.Given as goal

abbrev pub invariant-loads : goal.invariant-loads
invariant-loads g l = record {
  can : CanStep l.words.table_id l.words.key (l.most - l.loaded) l.self;
  goes_on : StepsBy l.words.table_id l.words.key l.loaded l.initial.self l.self;
  stands : StandsAt l.code l.self.thread (doing.Begin l.to);
}
