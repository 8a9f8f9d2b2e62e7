use Rattle.std.proofs.Common.{◌≡◌, ◌+◌, ◌<◌, ℕ, Some, slice_get}
use Rattle.replay.specs.Schedules.{counts}
use Rattle.replay.specs.declared.line.TheConstants.{MOST_STEPS}
use Rattle.replay.proofs.Spans.{Takes}
use Rattle.replay.proofs.order.take_turns.Given as goal

abbrev pub invariant-order : goal.invariant-order
invariant-order g l = record {
  takes : Takes l.initial.world l.world l.order l.at l.initial.found.items l.found.items;
  room : counts l.found.items + l.left ≡ MOST_STEPS;
  threads : l.world.threads ≡ l.initial.world.threads;
  named : (i t : ℕ) → i < l.at → slice_get l.order i ≡ Some t → t < l.initial.world.threads;
}
