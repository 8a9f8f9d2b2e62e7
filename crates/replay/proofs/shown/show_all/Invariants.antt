use Rattle.std.proofs.Common.{◌≡◌, take}
use Rattle.replay.specs.Replays.{simulation_after, timeline_of}
use Rattle.replay.proofs.shown.show_all.Given as goal

-- the steps so far were made, and each is shown
abbrev pub invariant-steps : goal.invariant-steps
invariant-steps g l = record {
  made : l.world ≡ simulation_after l.initial.world.code l.initial.world.threads (take l.at l.steps);
  shown : l.shown.items ≡ timeline_of l.world;
}
