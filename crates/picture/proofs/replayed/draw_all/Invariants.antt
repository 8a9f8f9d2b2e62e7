use Rattle.std.proofs.Common.{◌≡◌, take}
use Rattle.std.specs.Prelude.{flat_map}
use Rattle.replay.specs.Replays.{simulation_after, timeline_of}
use Rattle.picture.specs.Replayed.{if_drawn}
use Rattle.picture.specs.inner.Views.{HasDrawn}
use Rattle.picture.proofs.replayed.draw_all.Given as goal

-- the steps so far were made, and those of them that are drawn were drawn
abbrev pub invariant-steps : goal.invariant-steps
invariant-steps g l = record {
  made : l.world ≡ simulation_after l.code l.initial.world.threads (take l.at l.made);
  drawn : HasDrawn l.drawing (flat_map (if_drawn l.from l.code) (timeline_of l.world));
}
