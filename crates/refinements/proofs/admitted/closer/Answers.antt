use Rattle.std.proofs.Common.{arith, subst}
use Rattle.report.specs.Views.{reported_of}
use Rattle.refinements.specs.inner.Closest.{IsClosest}
use Rattle.refinements.proofs.Nearest.{closer_one, first_one, other_stays, same_stays}
use Rattle.refinements.proofs.admitted.closer.Goals as goal

pub returns-in-Nothing : goal.returns-in-Nothing
returns-in-Nothing g c = λ os report was at. first_one os report (reported_of c.args.one.now) c.args.line at (subst (IsClosest os report) c.in-Nothing.is was)

pub returns-then-before-line : goal.returns-then-before-line
returns-then-before-line g c = λ os report was at.
    closer_one os report (reported_of c.args.one.now) c.args.line at (reported_of c.in-Differs.other.now) c.in-Differs.before (subst (IsClosest os report) c.in-Differs.is was) (omega (arith, c.if-before-line.true))

pub returns-else-before-line : goal.returns-else-before-line
returns-else-before-line g c = λ os report was at.
    other_stays os report (reported_of c.args.one.now) c.args.line at (reported_of c.in-Differs.other.now) c.in-Differs.before (subst (IsClosest os report) c.in-Differs.is was) (omega (arith, c.if-before-line.false))

pub returns-in-Has : goal.returns-in-Has
returns-in-Has g c = λ os report was at. same_stays os report (reported_of c.args.one.now) c.args.line at (reported_of c.in-Has.other.now) (subst (IsClosest os report) c.in-Has.is was)
