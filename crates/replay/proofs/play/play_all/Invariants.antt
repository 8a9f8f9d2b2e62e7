use Rattle.std.proofs.Common.{◌≡◌, drop}
use Rattle.replay.specs.Replays.{events_of}
use Rattle.replay.specs.inner.Playing.{HasPlayed}
use Rattle.replay.proofs.play.play_all.Given as goal

abbrev pub invariant-lines : goal.invariant-lines
invariant-lines g l = record {
  played : HasPlayed l.fn.world.code l.fn.world.threads l.lines l.room (drop l.at l.lines) l.world;
  events : l.events.items ≡ events_of l.world;
}
