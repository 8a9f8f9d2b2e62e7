use Rattle.std.proofs.Common.{◌∙◌, ap, map, take}
use Rattle.syntax.specs.Views.{declarator_of}
use Rattle.syntax.specs.Typing.{first_unmet, AreTypedDeclarators}
use Rattle.types.specs.inner.Known.{known_in, locals_of}
use Rattle.types.proofs.Steps.{tell_same}
use Rattle.types.proofs.Grown.{left}
use Rattle.types.proofs.scope.check_lone.Goals as goal

pub returns-in_err-check_declarators-clause-answer : goal.returns-in_err-check_declarators-clause-answer
returns-in_err-check_declarators-clause-answer g c = λ declared h.
    tell_same c.check_declarators.result _ c.in_err-check_declarators.field-0.0 _ _ (ap (λ ds. first_unmet (AreTypedDeclarators (known_in c.args.names.now) declared c.args.one.now.ty (map declarator_of ds))) c.as_slice.ensures) (c.check_declarators.ensures.answer declared h) c.in_err-check_declarators.was c.from_residual.ensures

pub returns-clause-answer : goal.returns-clause-answer
returns-clause-answer g c = λ declared h.
    c.in_ok-check_declarators.ensures.answer declared h ∙ ap (λ ds. first_unmet (AreTypedDeclarators (known_in c.args.names.now) declared c.args.one.now.ty (map declarator_of ds))) c.as_slice.ensures

pub returns-clause-same : goal.returns-clause-same
returns-clause-same g c = left c.args.names.now c.check_declarators.new.names c.leave.new.self c.in_ok-check_declarators.ensures.grows (c.leave.ensures.locals ∙ ap (λ n. take n (locals_of c.check_declarators.new.names)) c.len-outer.ensures) c.leave.ensures.file
