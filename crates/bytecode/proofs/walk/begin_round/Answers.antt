use Rattle.std.proofs.Common.{◌≡◌, Some}
use Rattle.bytecode.specs.declared.walk.Arrival.TheVariants.{Inside}
use Rattle.bytecode.specs.inner.Walking.{arrival_at}
use Rattle.bytecode.proofs.Rounds.{steps_out}
use Rattle.bytecode.proofs.walk.begin_round.Goals as goal

pub outward-preserved : goal.outward-preserved
outward-preserved c =
    let here : arrival_at c.args.first c.args.arrivals.now c.outward.round ≡ Some (Inside c.in-Some-Inside.next) = cc in
    steps_out c.args.first c.args.arrivals.now c.args.times c.outward.made c.outward.round c.in-Some-Inside.next _ c.outward-test.true here c.outward.invariant
