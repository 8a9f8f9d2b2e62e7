use Rattle.std.proofs.Common.{◌+◌, List, Some, sym, subst, drop, arith}
use Rattle.world.specs.declared.stop.StopReason.{StopReason}
use Rattle.replay.specs.declared.line.Line.{Line}
use Rattle.replay.specs.declared.line.TheConstants.{MOST_STEPS}
use Rattle.replay.specs.inner.Playing.{ComesTo, HasPlayed}
use Rattle.replay.proofs.Playing.{drop_end, drop_get, ends_cut, plays_on, starts}
use Rattle.replay.proofs.play.play_all.Goals as goal

pub lines-init : goal.lines-init
lines-init g c =
    let w = c.args.world.now in
    record {
      played = subst (HasPlayed w.code w.threads c.args.lines.now MOST_STEPS c.args.lines.now) (sym c.requires.first) (starts w.code w.threads c.args.lines.now);
      events = c.requires.events;
    }

pub lines-preserved : goal.lines-preserved
lines-preserved g c =
    let w = c.args.world.now in
    let h = subst (λ (ls : List Line). HasPlayed w.code w.threads c.args.lines.now c.lines.room ls c.lines.world) (drop_get c.args.lines.now c.lines.at c.line_at-line.result c.line_at-line.ensures) c.lines.invariant.played in
    record {
      played = plays_on w.code w.threads c.args.lines.now c.lines.room c.in-Ok.left c.line_at-line.result (drop (c.lines.at + 1) c.args.lines.now) c.lines.world c.play.new.world h c.in-Ok.ensures.plays;
      events = c.in-Ok.ensures.events;
    }

pub returns-in-Err-Stopped-clause-ends : goal.returns-in-Err-Stopped-clause-ends
returns-in-Err-Stopped-clause-ends g c =
    let w = c.args.world.now in
    let h = subst (λ (ls : List Line). HasPlayed w.code w.threads c.args.lines.now c.lines.room ls c.lines.world) (drop_get c.args.lines.now c.lines.at c.line_at-line.result c.line_at-line.ensures) c.lines.invariant.played in
    let cut = ends_cut w.code w.threads c.args.lines.now c.lines.room c.line_at-line.result (drop (c.lines.at + 1) c.args.lines.now) c.lines.world c.play.new.world _ c.in-Err-Stopped.reason c.play.new.events.items h c.in-Err-Stopped.ensures.halt c.in-Err-Stopped.field-0-is in
    subst (λ (q : StopReason). ComesTo w.code w.threads c.args.lines.now (Some (c.line_at-line.result.thread, q)) c.play.new.world) (sym c.in-Err-Stopped.reason-is) cut.0

pub returns-in-Err-Stopped-clause-events : goal.returns-in-Err-Stopped-clause-events
returns-in-Err-Stopped-clause-events g c =
    let w = c.args.world.now in
    let h = subst (λ (ls : List Line). HasPlayed w.code w.threads c.args.lines.now c.lines.room ls c.lines.world) (drop_get c.args.lines.now c.lines.at c.line_at-line.result c.line_at-line.ensures) c.lines.invariant.played in
    (ends_cut w.code w.threads c.args.lines.now c.lines.room c.line_at-line.result (drop (c.lines.at + 1) c.args.lines.now) c.lines.world c.play.new.world _ c.in-Err-Stopped.reason c.play.new.events.items h c.in-Err-Stopped.ensures.halt c.in-Err-Stopped.field-0-is).1

pub returns-clause-ends : goal.returns-clause-ends
returns-clause-ends g c =
    let w = c.args.world.now in
    (c.lines.room, subst (λ (ls : List Line). HasPlayed w.code w.threads c.args.lines.now c.lines.room ls c.lines.world) (drop_end c.args.lines.now c.lines.at (let f = c.lines-test.false in omega arith)) c.lines.invariant.played)

pub returns-clause-events : goal.returns-clause-events
returns-clause-events g c = c.lines.invariant.events
