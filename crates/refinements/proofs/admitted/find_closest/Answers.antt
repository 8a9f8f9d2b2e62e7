use Rattle.std.proofs.Common.{map, take}
use Rattle.report.specs.Views.{reported_of}
use Rattle.refinements.proofs.Among.{one_of}
use Rattle.refinements.proofs.Nearest.{all_seen, none_before, one_seen}
use Rattle.refinements.proofs.admitted.find_closest.Goals as goal

pub outcomes-init : goal.outcomes-init
outcomes-init g c = none_before c.args.outcomes.now

pub outcomes-preserved : goal.outcomes-preserved
outcomes-preserved g c =
    let differs = rw c.in-Some.is at c.in_ok-line.ensures in
    one_seen c.args.outcomes.now c.args.report.now c.outcomes.one-index c.one-item.result c.closer-closest.result c.one-item.is c.outcomes-test.true
    (c.closer-closest.ensures (map reported_of (take c.outcomes.one-index c.args.outcomes.now)) c.args.report.now c.outcomes.invariant differs)

pub returns-in-None : goal.returns-in-None
returns-in-None g c =
    let has = rw c.in-None.is at c.in_ok-line.ensures in
    (one_of c.args.outcomes.now c.outcomes.one-index c.one-item.result c.one-item.is c.outcomes-test.true, has)

pub returns : goal.returns
returns g c = all_seen c.args.outcomes.now c.args.report.now c.outcomes.one-index c.outcomes.closest c.outcomes-test.false c.outcomes.invariant
