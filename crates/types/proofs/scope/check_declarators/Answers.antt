use Rattle.std.proofs.Common.{◌+◌, ◌∷◌, map, drop, refl, sym, ap, subst, ◌∙◌, arith}
use Rattle.std.proofs.lemmas.List.{at_drop_all}
use Rattle.std.specs.Option.{option_or}
use Rattle.syntax.specs.Views.{declarator_of}
use Rattle.syntax.specs.Types.{with_number}
use Rattle.syntax.specs.Typing.{knows}
use Rattle.syntax.specs.Typing.{first_unmet, AreTypedDeclarators}
use Rattle.types.specs.inner.Known.{known_in, declared_by, AreDeclared}
use Rattle.types.proofs.Steps.{tell_stop}
use Rattle.types.proofs.Declared.{declarators_more, knows_more, declared_by_more}
use Rattle.types.proofs.Grown.{grows_on, grows_none}
use Rattle.types.proofs.scope.check_declarators.Goals as goal

pub each-init : goal.each-init
each-init g c = (omega arith, grows_none c.args.names.now, refl, λ declared h. (declared, h, refl, refl))

pub each-preserved : goal.each-preserved
each-preserved g c =
    let ds = c.args.all.now in
    let t = c.args.ty in
    let i = c.each.one-index in
    let d = c.one-item.result in
    let now = c.each.names in
    let new = c.check_declarator.new.names in
    let inv = c.each.invariant in
    let ok = c.in_ok-check_declarator.ensures in
    let rest = map declarator_of (drop (i + 1) ds) in (
      omega (arith, inv.0, ok.count),
      grows_on c.args.names.now now new inv.0 inv.1 ok.grows,
      ap (knows t rest) ok.known ∙ sym (knows_more t ds i d c.one-item.is c.each-test.true (known_in now)) ∙ inv.2,
      λ declared h. let p = inv.3 declared h in (
        d.name.text ∷ p.0,
        ok.declared p.0 p.1,
        sym (declared_by_more t ds i d c.one-item.is c.each-test.true p.0) ∙ p.2,
        ap (λ k. first_unmet (AreTypedDeclarators k (d.name.text ∷ p.0) t rest)) ok.known
            ∙ ap (λ o. option_or o (first_unmet (AreTypedDeclarators (with_number d.name.text t (known_in now)) (d.name.text ∷ p.0) t rest))) (ok.answer p.0 p.1)
            ∙ sym (declarators_more t ds i d c.one-item.is c.each-test.true (known_in now) p.0) ∙ p.3,
      ),
    )

pub returns-in_err-check_declarator-clause-answer : goal.returns-in_err-check_declarator-clause-answer
returns-in_err-check_declarator-clause-answer g c = λ declared h.
    let p = c.each.invariant.3 declared h in
    tell_stop c.check_declarator.result _ c.in_err-check_declarator.field-0.0 _ _ _ (sym p.3 ∙ declarators_more c.args.ty c.args.all.now c.each.one-index c.one-item.result c.one-item.is c.each-test.true (known_in c.each.names) p.0) (c.check_declarator.ensures.answer p.0 p.1) c.in_err-check_declarator.was c.from_residual.ensures

pub returns-clause-answer : goal.returns-clause-answer
returns-clause-answer g c = λ declared h.
    let p = c.each.invariant.3 declared h in
    sym (at_drop_all (λ xs. first_unmet (AreTypedDeclarators (known_in c.each.names) p.0 c.args.ty (map declarator_of xs))) c.args.all.now c.each.one-index c.each-test.false) ∙ p.3

pub returns-clause-known : goal.returns-clause-known
returns-clause-known g c = sym (at_drop_all (λ xs. knows c.args.ty (map declarator_of xs) (known_in c.each.names)) c.args.all.now c.each.one-index c.each-test.false) ∙ c.each.invariant.2

pub returns-clause-declared : goal.returns-clause-declared
returns-clause-declared g c = λ declared h.
    let p = c.each.invariant.3 declared h in
    subst (AreDeclared c.args.start c.each.names) (sym (at_drop_all (λ xs. declared_by (map declarator_of xs) p.0) c.args.all.now c.each.one-index c.each-test.false) ∙ p.2) p.1

pub returns-clause-grows : goal.returns-clause-grows
returns-clause-grows g c = c.each.invariant.1
