use Rattle.std.proofs.Common.{◌∙◌, sym, ap}
use Rattle.replay.specs.Replays.{events_of}
use Rattle.replay.proofs.Playing.{replays}
use Rattle.replay.proofs.play.report_played.Goals as goal

pub play_all-requires-clause-events : goal.play_all-requires-clause-events
play_all-requires-clause-events g c = c.new-events.ensures.items ∙ ap events_of (sym c.requires.first)

pub returns : goal.returns
returns g c =
    let w = c.args.world.now in
    let r = c.in_ok-report.ensures in
    replays w.code w.threads c.args.lines.now _ c.play_all.new.world c.threads-threads.ensures.explained c.in_ok-stop.ensures.events r.trace c.in_ok-stop.stop c.in_ok-stop.ensures.ends r.threads r.words r.holder r.stop
