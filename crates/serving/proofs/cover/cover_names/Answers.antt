use Rattle.std.proofs.Common.{◌≡◌, ◌∙◌, All, ap, inr, map, refl, subst, sym}
use Rattle.syntax.specs.Views.{program_of}
use Rattle.report.specs.CoveringViews.{covering_of}
use Rattle.serving.specs.Coverings.{AreCoveredOf, IsCoveredOf}
use Rattle.serving.proofs.CoveringTold.{coverings_so, refused_coverings}
use Rattle.serving.proofs.cover.cover_names.Goals as goal

pub returns-in-Some : goal.returns-in-Some
returns-in-Some g c = refused_coverings _ c.in-Some.status _ _ c.in-Some.ensures.status refl

pub returns-in-Ok : goal.returns-in-Ok
returns-in-Ok g c =
    let p = program_of c.args.compiled.now.accepted.safe.typed.unit in
    let names = map (λ n. n.now) c.args.names.now in
    let each = subst (λ s. All (IsCoveredOf p s) (map covering_of c.in-Ok.found.items)) c.extent_of.ensures c.in-Ok.ensures.each in
    let are : AreCoveredOf p c.args.coverage.now.steps names (map covering_of c.in-Ok.found.items) = record { names_are = c.in-Ok.ensures.names; each = each } in
    let shown = ap (map covering_of) c.as_slice.ensures.value in
    coverings_so (λ ps. ps ≡ map covering_of c.as_slice.result.now) (AreCoveredOf p c.args.coverage.now.steps names) (λ ps same. subst (AreCoveredOf p c.args.coverage.now.steps names) (sym (same ∙ shown)) are) c.print_covered.result _ _ c.print_covered.ensures

pub returns-in-Err : goal.returns-in-Err
returns-in-Err g c = refused_coverings _ c.out_of_memory.result _ _ (inr c.out_of_memory.ensures) refl
