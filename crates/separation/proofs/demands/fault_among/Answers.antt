use Rattle.std.proofs.Common.{List, sym, refl, ◌∙◌}
use Rattle.syntax.specs.Typing.{Demand}
use Rattle.syntax.specs.Violations.{told_of, unmet_in}
use Rattle.safety.specs.Sites.{Site}
use Rattle.safety.specs.Sets.{set_of}
use Rattle.safety.specs.Views.{site_of}
use Rattle.safety.proofs.Found.{more_at, found_first, found_later}
use Rattle.separation.specs.Touching.{demands_at}
use Rattle.separation.proofs.demands.fault_among.Goals as goal

pub returns-then-is_some : goal.returns-then-is_some
returns-then-is_some g c =
    let demands : Site → List Demand = λ s. demands_at (set_of c.args.touching.now) s s.construct in
    found_first unmet_in refl (λ b. (told_of b, refl)) c.fault_at-found.result _ _ _ (sym c.is_some.ensures ∙ c.if-is_some.true)
    (sym c.each.invariant ∙ more_at site_of demands c.args.sites.now c.each.site-index _ c.each-test.true) c.fault_at-found.ensures

pub each-preserved : goal.each-preserved
each-preserved g c =
    let demands : Site → List Demand = λ s. demands_at (set_of c.args.touching.now) s s.construct in
    found_later unmet_in refl (λ b. (told_of b, refl)) c.fault_at-found.result _ _ _ (sym c.is_some.ensures ∙ c.if-is_some.false)
    (sym c.each.invariant ∙ more_at site_of demands c.args.sites.now c.each.site-index _ c.each-test.true) c.fault_at-found.ensures
