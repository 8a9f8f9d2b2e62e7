use Rattle.std.proofs.Common.{◌≡◌, ◌∙◌, ◌∷◌, ◌++◌, [], map, take, sym, ap, subst}
use Rattle.syntax.specs.Tree.{Defines, Shares}
use Rattle.syntax.specs.Views.{function_of, global_of, item_of}
use Rattle.syntax.specs.Typing.{has_name, defined_names}
use Rattle.syntax.specs.Typing.{demand, first_unmet, IsTypedItem}
use Rattle.types.proofs.Files.{defined_is}
use Rattle.types.proofs.Items.{items_more, items_taken, defined_more, shared_more, none_first, none_rest, has_right, AllDefined, all_defined_function, all_defined_shared}
use Rattle.types.proofs.Steps.{skip, stop, demand_met}
use Rattle.types.proofs.unit.check_defined.Goals as goal
use Rattle.types.proofs.unit.check_defined.Goals.{in-Function+in_ok-demand-in-Function, in-Globals}

pub returns-in_err-demand-in-Function : goal.returns-in_err-demand-in-Function
returns-in_err-demand-in-Function g c =
    let xs = c.args.items.now in
    let p = map item_of xs in
    let i = c.each.item-index in
    let x = c.item-item.result in
    let f = function_of c.in-Function.f in
    let is : item_of x ≡ Defines f = ap item_of c.in-Function.is in
    let typed = none_first _ _ (c.each.invariant.0 ∙ items_more xs i x c.item-item.is c.each-test.true) ∙ ap (λ y. first_unmet (IsTypedItem (map item_of (take i xs)) y)) is in
    let has = c.has_body-defined.ensures p c.requires.defined ∙ ap (has_name (defined_names p)) c.as_str.ensures ∙ sym (defined_is p f.name.text) in
    let right = has_right p (map item_of (take i xs)) f c.has_body-defined.result has typed c.each.invariant.1 in
    stop c.demand.result _ c.in_err-demand-in-Function.field-0.0 _ _ _ (sym c.each.invariant.2 ∙ defined_more xs i x c.item-item.is c.each-test.true p f is) (c.demand.ensures ∙ ap (λ b. first_unmet (demand 29 f.name.span b)) right) c.in_err-demand-in-Function.was c.from_residual.ensures

pub each-preserved : goal.each-preserved
each-preserved g c =
    let xs = c.args.items.now in
    let p = map item_of xs in
    let i = c.each.item-index in
    let x = c.item-item.result in
    let taken = items_taken xs i x c.item-item.is c.each-test.true in
    let more = c.each.invariant.0 ∙ items_more xs i x c.item-item.is c.each-test.true in
    let rest = none_rest _ _ more in
    elim c.match-item.branch [
      | in-Function+in_ok-demand-in-Function w ↦ (
          let f = function_of w.in-Function.f in
          let is : item_of x ≡ Defines f = ap item_of w.in-Function.is in
          let typed = none_first _ _ more ∙ ap (λ y. first_unmet (IsTypedItem (map item_of (take i xs)) y)) is in
          let has = w.has_body-defined.ensures p c.requires.defined ∙ ap (has_name (defined_names p)) w.as_str.ensures ∙ sym (defined_is p f.name.text) in
          let right = has_right p (map item_of (take i xs)) f w.has_body-defined.result has typed c.each.invariant.1 in
          let met = demand_met w.demand.result _ 29 f.name.span w.has_body-defined.result w.demand.ensures w.in_ok-demand-in-Function.was in (
            rest,
            subst (AllDefined p) (sym (taken ∙ ap (λ y. map item_of (take i xs) ++ y ∷ []) is)) (all_defined_function p (map item_of (take i xs)) f (sym has ∙ met) c.each.invariant.1),
            sym (skip w.demand.result _ _ _ _ (defined_more xs i x c.item-item.is c.each-test.true p f is) (w.demand.ensures ∙ ap (λ b. first_unmet (demand 29 f.name.span b)) right) w.in_ok-demand-in-Function.was) ∙ c.each.invariant.2,
          ))
      | in-Globals w ↦ (
          let is : item_of x ≡ Shares (map global_of w.in-Globals.field-0) = ap item_of w.in-Globals.is in (
            rest,
            subst (AllDefined p) (sym (taken ∙ ap (λ y. map item_of (take i xs) ++ y ∷ []) is)) (all_defined_shared p (map item_of (take i xs)) (map global_of w.in-Globals.field-0) c.each.invariant.1),
            sym (shared_more xs i x c.item-item.is c.each-test.true p (map global_of w.in-Globals.field-0) is) ∙ c.each.invariant.2,
          ))
    ]
