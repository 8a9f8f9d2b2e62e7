use Rattle.std.proofs.Common.{◌≡◌}
use Rattle.world.specs.Simulations.{IsExplained}
use Rattle.replay.specs.Replays.{events_of}
use Rattle.replay.specs.inner.Playing.{Going}
use Rattle.replay.proofs.play.play.Given as goal

abbrev pub invariant-steps : goal.invariant-steps
invariant-steps g l = record {
  going : Going l.line l.room l.count l.left l.initial.world l.world;
  events : l.events.items ≡ events_of l.world;
  threads : l.threads ≡ l.world.threads;
  explained : IsExplained l.world;
}

abbrev pub decreases-steps : goal.decreases-steps
decreases-steps g l = l.left
