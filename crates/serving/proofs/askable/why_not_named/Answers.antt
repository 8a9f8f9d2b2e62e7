use Rattle.std.proofs.Common.{◌∙◌, ap, map, option_map, subst, sym}
use Rattle.syntax.specs.Views.{function_of, item_of, program_of}
use Rattle.syntax.specs.Names.{definition_of}
use Rattle.safety.specs.Sets.{set_of}
use Rattle.serving.proofs.Asking.{IsDefined, askable, definition_found, definition_later, none_weaker, not_defined, only_askable, some_weaker, unknown}
use Rattle.serving.proofs.askable.why_not_named.Goals as goal

pub returns-in-Some-clause-none : goal.returns-in-Some-clause-none
returns-in-Some-clause-none g c =
    let f = function_of c.in-Some.f.now in
    let found = definition_found item_of c.as_slice-item-items.result.now c.items.item-index c.item-item.result c.item-item.is c.items-test.true c.args.name.now c.items.invariant f (sym c.in-Some.ensures) in
    let defined = subst (λ ys. IsDefined (map item_of ys) c.args.name.now f) c.as_slice-item-items.ensures found in
    none_weaker c.why_not.result (askable (program_of c.args.unit.now) (set_of c.args.irrevocable.now) c.requires.tells c.args.name.now f defined) c.why_not.ensures.none

pub returns-in-Some-clause-some : goal.returns-in-Some-clause-some
returns-in-Some-clause-some g c =
    let f = function_of c.in-Some.f.now in
    let found = definition_found item_of c.as_slice-item-items.result.now c.items.item-index c.item-item.result c.item-item.is c.items-test.true c.args.name.now c.items.invariant f (sym c.in-Some.ensures) in
    let defined = subst (λ ys. IsDefined (map item_of ys) c.args.name.now f) c.as_slice-item-items.ensures found in
    some_weaker c.why_not.result (λ not is. not (only_askable (program_of c.args.unit.now) (set_of c.args.irrevocable.now) c.requires.tells c.args.name.now f defined is)) c.why_not.ensures.some

pub items-preserved : goal.items-preserved
items-preserved g c =
    definition_later item_of c.as_slice-item-items.result.now c.items.item-index c.item-item.result c.item-item.is c.items-test.true c.args.name.now c.items.invariant
    (sym c.defined_in.ensures ∙ ap (option_map (λ f. function_of f.now)) c.in_default.is)

pub returns-clause-some : goal.returns-clause-some
returns-clause-some g c =
    unknown (program_of c.args.unit.now) c.args.name.now
    (ap (λ ys. definition_of (map item_of ys) c.args.name.now) (sym c.as_slice-item-items.ensures)
    ∙ not_defined item_of c.as_slice-item-items.result.now c.items.item-index c.args.name.now c.items-test.false c.items.invariant)
