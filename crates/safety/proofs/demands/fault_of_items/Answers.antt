use Rattle.std.proofs.Common.{sym, refl, ◌∙◌, map}
use Rattle.std.proofs.lemmas.List.{at_drop_all}
use Rattle.std.specs.List.{flat_map}
use Rattle.syntax.specs.Views.{item_of}
use Rattle.syntax.specs.Typing.{first_unmet}
use Rattle.safety.specs.Faults.{item_demands}
use Rattle.safety.specs.Sets.{set_of}
use Rattle.syntax.specs.Violations.{told_of, unmet_in}
use Rattle.safety.specs.inner.Rest.{rest_of}
use Rattle.safety.proofs.Found.{more, found_first, found_later}
use Rattle.safety.proofs.demands.fault_of_items.Goals as goal

pub returns-then-is_some : goal.returns-then-is_some
returns-then-is_some g c = λ p k.
    let demands = item_demands p (rest_of (set_of c.args.not_safe.now)) (set_of c.args.outer.now) in
    found_first unmet_in refl (λ b. (told_of b, refl)) c.in_ok-found.found _ _ _ (sym c.is_some.ensures ∙ c.if-is_some.true)
    (sym (c.each.invariant p k) ∙ more item_of demands c.args.items.now c.each.item-index c.item-item.result c.item-item.is c.each-test.true) (c.in_ok-found.ensures p k)

pub each-preserved : goal.each-preserved
each-preserved g c = λ p k.
    let demands = item_demands p (rest_of (set_of c.args.not_safe.now)) (set_of c.args.outer.now) in
    found_later unmet_in refl (λ b. (told_of b, refl)) c.in_ok-found.found _ _ _ (sym c.is_some.ensures ∙ c.if-is_some.false)
    (sym (c.each.invariant p k) ∙ more item_of demands c.args.items.now c.each.item-index c.item-item.result c.item-item.is c.each-test.true) (c.in_ok-found.ensures p k)

pub returns : goal.returns
returns g c = λ p k.
    let demands = item_demands p (rest_of (set_of c.args.not_safe.now)) (set_of c.args.outer.now) in
    sym (at_drop_all (λ xs. first_unmet (flat_map demands (map item_of xs))) c.args.items.now c.each.item-index c.each-test.false) ∙ c.each.invariant p k
