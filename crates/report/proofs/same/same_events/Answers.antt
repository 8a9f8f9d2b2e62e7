use Rattle.std.proofs.Common.{refl}
use Rattle.containers.proofs.Sames.{same_all}
use Rattle.report.proofs.Sets.{same_more_at, same_not_at}
use Rattle.report.proofs.same.same_events.Goals as goal

pub each-preserved : goal.each-preserved
each-preserved c = same_more_at c.args.a.now c.args.b.now c.each.i _ c.each.invariant (c.if-not-same_event.ensures.0 refl) c.each-test.true c.if-a-b.false

pub returns-then-not-same_event : goal.returns-then-not-same_event
returns-then-not-same_event c = same_not_at c.args.a.now c.args.b.now c.each.i _ c.same_event.result c.same_event.ensures c.if-not-same_event.true c.each-test.true c.if-a-b.false

pub returns : goal.returns
returns c = same_all c.args.a.now c.args.b.now c.each.i c.each.invariant c.each-test.false c.if-a-b.false
