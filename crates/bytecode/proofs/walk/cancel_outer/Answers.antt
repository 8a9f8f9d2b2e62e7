use Rattle.std.proofs.Common.{◌≡◌, ◌-◌, Some}
use Rattle.bytecode.specs.inner.Walking.{begin_round}
use Rattle.bytecode.proofs.walk.cancel_outer.Goals as goal

pub returns-in-Some-clause-cancelled : goal.returns-in-Some-clause-cancelled
returns-in-Some-clause-cancelled g c =
    let round : begin_round c.args.first c.args.arrivals.now (c.args.levels - 1) c.args.begin ≡ Some c.in-Some.outer = cc in
    λ arguments. rw round (c.cancel.ensures.cancelled arguments)
