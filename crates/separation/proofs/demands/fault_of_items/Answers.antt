use Rattle.std.proofs.Common.{codes, map, sym, refl, ◌∙◌}
use Rattle.std.proofs.lemmas.List.{at_drop_all}
use Rattle.syntax.specs.Views.{item_of}
use Rattle.syntax.specs.Typing.{first_unmet}
use Rattle.safety.specs.Sites.{sites_of}
use Rattle.safety.specs.Sets.{set_of}
use Rattle.safety.proofs.Found.{found_first, found_later}
use Rattle.syntax.specs.Violations.{told_of, unmet_in}
use Rattle.separation.specs.Touching.{separation_demands}
use Rattle.separation.proofs.Own.{items_more}
use Rattle.separation.proofs.demands.fault_of_items.Goals as goal

pub returns-then-is_some : goal.returns-then-is_some
returns-then-is_some g c =
    found_first unmet_in refl (λ b. (told_of b, refl)) c.in_ok-found.found _ _ _ (sym c.is_some.ensures ∙ c.if-is_some.true)
    (sym c.each.invariant ∙ items_more (set_of c.args.touching.now) (codes "worker") c.args.items.now c.each.item-index c.item-item.result c.item-item.is c.each-test.true) c.in_ok-found.ensures

pub each-preserved : goal.each-preserved
each-preserved g c =
    found_later unmet_in refl (λ b. (told_of b, refl)) c.in_ok-found.found _ _ _ (sym c.is_some.ensures ∙ c.if-is_some.false)
    (sym c.each.invariant ∙ items_more (set_of c.args.touching.now) (codes "worker") c.args.items.now c.each.item-index c.item-item.result c.item-item.is c.each-test.true) c.in_ok-found.ensures

pub returns : goal.returns
returns g c = sym (at_drop_all (λ xs. first_unmet (separation_demands (set_of c.args.touching.now) (sites_of (map item_of xs) (codes "worker")))) c.args.items.now c.each.item-index c.each-test.false) ∙ c.each.invariant
