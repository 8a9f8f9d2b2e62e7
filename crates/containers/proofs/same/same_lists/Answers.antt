use Rattle.std.proofs.Common.{refl}
use Rattle.containers.proofs.Sames.{same_more, same_not, same_all}
use Rattle.containers.proofs.same.same_lists.Goals as goal

pub each-preserved : goal.each-preserved
each-preserved g c =
    same_more c.args.xs.now c.args.ys.now c.each.i c.index-xs-i.result c.index-ys-i.result c.each.invariant c.index-xs-i.is c.index-ys-i.is (c.if-not-same.ensures.0 refl) c.each-test.true c.if-xs-ys.false

pub returns-then-not-same : goal.returns-then-not-same
returns-then-not-same g c =
    same_not c.args.xs.now c.args.ys.now c.each.i c.index-xs-i.result c.index-ys-i.result c.same.result c.same.ensures c.if-not-same.true c.index-xs-i.is c.index-ys-i.is c.each-test.true c.if-xs-ys.false

pub returns : goal.returns
returns g c = same_all c.args.xs.now c.args.ys.now c.each.i c.each.invariant c.each-test.false c.if-xs-ys.false
