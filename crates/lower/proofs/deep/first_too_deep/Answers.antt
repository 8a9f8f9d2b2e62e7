use Rattle.std.proofs.Common.{map, refl, sym, ◌∙◌}
use Rattle.syntax.specs.Views.{item_of}
use Rattle.lower.specs.Nested.{item_too_deep, items_too_deep}
use Rattle.lower.proofs.Deeper.{passed, found, none_found}
use Rattle.lower.proofs.deep.first_too_deep.Goals as goal

pub returns-in-Some : goal.returns-in-Some
returns-in-Some g c =
    found (λ i. item_too_deep (item_of i) c.args.count) (λ is. items_too_deep (map item_of is) c.args.count) (λ i is. refl) c.args.items.now c.each.item-index c.item-item.result _ c.in-Some.at c.each-test.true c.item-item.is (sym c.in-Some.is ∙ c.deep_item.ensures) c.each.invariant

pub each-preserved : goal.each-preserved
each-preserved g c =
    passed (λ i. item_too_deep (item_of i) c.args.count) (λ is. items_too_deep (map item_of is) c.args.count) (λ i is. refl) c.args.items.now c.each.item-index c.item-item.result _ c.each-test.true c.item-item.is (sym c.in-None.is ∙ c.deep_item.ensures) c.each.invariant

pub returns : goal.returns
returns g c =
    none_found (λ is. items_too_deep (map item_of is) c.args.count) c.args.items.now c.each.item-index _ refl c.each-test.false c.each.invariant
