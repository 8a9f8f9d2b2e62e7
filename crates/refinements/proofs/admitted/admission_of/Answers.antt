use Rattle.std.proofs.Common.{inl, map, subst}
use Rattle.report.specs.Views.{reported_of}
use Rattle.refinements.specs.inner.Closest.{IsClosest}
use Rattle.refinements.proofs.Nearest.{each_by}
use Rattle.refinements.proofs.admitted.admission_of.Goals as goal

pub returns-in_ok-nearest_text-in-Differs-clause-not_so : goal.returns-in_ok-nearest_text-in-Differs-clause-not_so
returns-in_ok-nearest_text-in-Differs-clause-not_so g c = λ no.
    let os = map reported_of c.args.outcomes.now in
    let report = c.args.report.now in
    let line = c.in-Differs.field-1 in
    let nearest = subst (IsClosest os report) c.in-Differs.is c.in_ok-one.ensures in
    inl (record {
      one = reported_of c.in-Differs.one.now;
      is_one = nearest.0;
      at = line;
      differs = nearest.1;
      each = λ o has. each_by os report line o nearest.2 has;
      shown = c.in_ok-nearest_text-in-Differs.ensures line nearest.1;
    })
