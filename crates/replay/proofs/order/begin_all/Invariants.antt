use Rattle.std.proofs.Common.{◌≡◌, ◌+◌}
use Rattle.replay.specs.Schedules.{counts}
use Rattle.replay.specs.declared.line.TheConstants.{MOST_STEPS}
use Rattle.replay.proofs.Spans.{Begins}
use Rattle.replay.proofs.order.begin_all.Given as goal

abbrev pub invariant-threads : goal.invariant-threads
invariant-threads g l = record {
  begins : Begins l.initial.world l.world l.t l.initial.world.threads l.found.items;
  room : counts l.found.items + l.room ≡ MOST_STEPS;
  threads : l.world.threads ≡ l.initial.world.threads;
}
