use Rattle.std.proofs.Common.{◌+◌, ◌∷◌, ◌++◌, [], map, drop, refl, sym, ap, subst, ◌∙◌, arith}
use Rattle.std.proofs.lemmas.List.{at_drop_all}
use Rattle.syntax.specs.Views.{parameter_of}
use Rattle.syntax.specs.Typing.{has_name, parameter_names, with_parameters}
use Rattle.syntax.specs.Typing.{first_unmet, AreDistinct}
use Rattle.types.specs.inner.Known.{known_in, AreDeclared}
use Rattle.types.proofs.Steps.{tell_stop, tell_skip}
use Rattle.types.proofs.Parameters.{parameters_by, parameters_named, nothing_more, distinct_more, with_more, by_more}
use Rattle.types.proofs.Grown.{grows_on, grows_none, none_declared}
use Rattle.types.proofs.function.check_parameters.Goals as goal

pub each-init : goal.each-init
each-init g c = (omega arith, grows_none c.args.names.now, refl, c.len-start.ensures, ([], subst (λ n. AreDeclared n c.args.names.now []) (sym c.len-start.ensures) (none_declared c.args.names.now), refl, refl))

pub check_parameter-requires : goal.check_parameter-requires
check_parameter-requires g c = let e = c.each.invariant.3 in let h = c.each.invariant.0 in omega (arith, e, h)

pub each-preserved : goal.each-preserved
each-preserved g c =
    let qs = c.args.all.now in
    let i = c.each.one-index in
    let q = c.one-item.result in
    let now = c.each.names in
    let new = c.check_parameter.new.names in
    let inv = c.each.invariant in
    let ok = c.in_ok-check_parameter.ensures in
    let rest = map parameter_of (drop (i + 1) qs) in
    let p = inv.4 in (
      omega (arith, inv.0, ok.count),
      grows_on c.args.names.now now new inv.0 inv.1 ok.grows,
      ap (with_parameters rest) ok.known ∙ sym (with_more qs i q c.one-item.is c.each-test.true (known_in now)) ∙ inv.2,
      inv.3,
      (
        parameter_names (parameter_of q ∷ []) ++ p.0,
        ok.declared p.0 p.1,
        sym (by_more qs i q c.one-item.is c.each-test.true p.0) ∙ p.2,
        sym (tell_skip c.check_parameter.result _ _ _ _ (distinct_more qs i q c.one-item.is c.each-test.true p.0) (c.check_parameter.ensures.answer p.0 p.1) c.in_ok-check_parameter.was) ∙ p.3,
      ),
    )

pub returns-in_err-check_parameter-clause-answer : goal.returns-in_err-check_parameter-clause-answer
returns-in_err-check_parameter-clause-answer g c =
    let p = c.each.invariant.4 in
    tell_stop c.check_parameter.result _ c.in_err-check_parameter.field-0.0 _ _ _ (sym p.3 ∙ distinct_more c.args.all.now c.each.one-index c.one-item.result c.one-item.is c.each-test.true p.0) (c.check_parameter.ensures.answer p.0 p.1) c.in_err-check_parameter.was c.from_residual.ensures

pub returns-clause-answer : goal.returns-clause-answer
returns-clause-answer g c =
    let p = c.each.invariant.4 in
    sym (at_drop_all (λ xs. first_unmet (AreDistinct p.0 (map parameter_of xs))) c.args.all.now c.each.one-index c.each-test.false) ∙ p.3

pub returns-clause-known : goal.returns-clause-known
returns-clause-known g c = sym (at_drop_all (λ xs. with_parameters (map parameter_of xs) (known_in c.each.names)) c.args.all.now c.each.one-index c.each-test.false) ∙ c.each.invariant.2

pub returns-clause-declared : goal.returns-clause-declared
returns-clause-declared g c =
    let p = c.each.invariant.4 in
    let all = map parameter_of c.args.all.now in
    let by = sym (at_drop_all (λ xs. parameters_by (map parameter_of xs) p.0) c.args.all.now c.each.one-index c.each-test.false) ∙ p.2 in
    subst (λ n. AreDeclared n c.each.names (parameter_names all)) c.each.invariant.3 (λ x. p.1 x ∙ ap (λ ns. has_name ns x) by ∙ parameters_named all [] x ∙ nothing_more (parameter_names all) x)

pub returns-clause-grows : goal.returns-clause-grows
returns-clause-grows g c = c.each.invariant.1
