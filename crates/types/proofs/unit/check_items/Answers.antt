use Rattle.std.proofs.Common.{◌∙◌, map, take, refl, sym, ap, subst, arith, is_some}
use Rattle.std.proofs.lemmas.List.{take_all, at_drop_all}
use Rattle.name_tables.specs.Named.{first}
use Rattle.syntax.specs.Views.{item_of}
use Rattle.syntax.specs.Typing.{first_unmet, AreTypedItems}
use Rattle.types.specs.inner.Found.{IsFound}
use Rattle.types.proofs.Items.{items_more, items_taken}
use Rattle.types.proofs.Steps.{tell_skip, tell_stop}
use Rattle.types.proofs.unit.check_items.Goals as goal

pub each-init : goal.each-init
each-init g c = (
  record {
    known = c.new.ensures.known;
    none = c.new.ensures.locals;
    defined = λ x. ap (λ es. is_some (first es x)) c.new-2.ensures;
    taken = refl;
    few = omega arith;
  },
  refl,
)

pub returns-in_err-check_item-clause-answer : goal.returns-in_err-check_item-clause-answer
returns-in_err-check_item-clause-answer g c =
    tell_stop c.check_item.result _ c.in_err-check_item.field-0.0 _ _ _ (sym c.each.invariant.1 ∙ items_more c.args.items.now c.each.i c.index-items-i.result c.index-items-i.is c.each-test.true) c.check_item.ensures.answer c.in_err-check_item.was c.from_residual.ensures

pub each-preserved : goal.each-preserved
each-preserved g c =
    let xs = c.args.items.now in
    let i = c.each.i in
    let x = c.index-items-i.result in
    let more = items_more xs i x c.index-items-i.is c.each-test.true in (
      subst (IsFound c.check_item.new.found) (sym (items_taken xs i x c.index-items-i.is c.each-test.true)) c.in_ok-check_item.ensures.found,
      sym (tell_skip c.check_item.result _ _ _ _ more c.check_item.ensures.answer c.in_ok-check_item.was) ∙ c.each.invariant.1,
    )

pub returns-clause-answer : goal.returns-clause-answer
returns-clause-answer g c = sym (at_drop_all (λ xs. first_unmet (AreTypedItems (map item_of (take c.each.i c.args.items.now)) (map item_of xs))) c.args.items.now c.each.i c.each-test.false) ∙ c.each.invariant.1

pub returns-clause-found : goal.returns-clause-found
returns-clause-found g c = subst (λ xs. IsFound c.each.found (map item_of xs)) (take_all c.each.i c.args.items.now c.each-test.false) c.each.invariant.0
