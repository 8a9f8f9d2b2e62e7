use Rattle.std.proofs.Common.{map, option_map, refl, sym, ◌∙◌}
use Rattle.syntax.specs.Views.{expr_of, declarator_of}
use Rattle.lower.specs.Nested.{expr_too_deep, too_deep_if_any, declarators_too_deep}
use Rattle.lower.proofs.Deeper.{passed, found, none_found}
use Rattle.lower.proofs.deep.deep_declarators.Goals as goal

pub returns-in-Some : goal.returns-in-Some
returns-in-Some g c =
    found (λ d. too_deep_if_any expr_too_deep (option_map expr_of d.first) c.args.count) (λ ds. declarators_too_deep (map declarator_of ds) c.args.count) (λ d ds. refl) c.args.all.now c.each.one-index c.one-item.result _ c.in-Some.at c.each-test.true c.one-item.is (sym c.in-Some.is ∙ c.deep_expr_if_any.ensures) c.each.invariant

pub each-preserved : goal.each-preserved
each-preserved g c =
    passed (λ d. too_deep_if_any expr_too_deep (option_map expr_of d.first) c.args.count) (λ ds. declarators_too_deep (map declarator_of ds) c.args.count) (λ d ds. refl) c.args.all.now c.each.one-index c.one-item.result _ c.each-test.true c.one-item.is (sym c.in-None.is ∙ c.deep_expr_if_any.ensures) c.each.invariant

pub returns : goal.returns
returns g c =
    none_found (λ ds. declarators_too_deep (map declarator_of ds) c.args.count) c.args.all.now c.each.one-index _ refl c.each-test.false c.each.invariant
