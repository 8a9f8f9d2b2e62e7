use Rattle.std.proofs.Common.{◌≡◌, [], map, take, false, option_map, sym, ap, subst, ◌∙◌}
use Rattle.std.specs.Option.{option_or}
use Rattle.syntax.specs.Views.{parameter_of, stmts_of}
use Rattle.syntax.specs.Typing.{parameter_names, with_parameters}
use Rattle.syntax.specs.Typing.{first_unmet, demands_of, AreDistinct, AreTypedStmts}
use Rattle.types.specs.inner.Known.{known_in, locals_of, AreDeclared}
use Rattle.types.proofs.Steps.{first_of_two, tell_skip, tell_stop, tell_same}
use Rattle.types.proofs.Grown.{left, grows_on}
use Rattle.types.proofs.function.check_inside.Goals as goal

pub returns-in_err-check_parameters-clause-answer : goal.returns-in_err-check_parameters-clause-answer
returns-in_err-check_parameters-clause-answer g c =
    let f = c.args.f.now in
    let old = known_in c.args.names.now in
    let body = demands_of (option_map stmts_of f.body) (λ ss. AreTypedStmts f.result ss (with_parameters (map parameter_of f.parameters) old) (parameter_names (map parameter_of f.parameters)) false) in
    let is = first_of_two (AreDistinct [] (map parameter_of f.parameters)) body ∙ ap (λ qs. option_or (first_unmet (AreDistinct [] (map parameter_of qs))) (first_unmet body)) (sym c.as_slice.ensures) in
    tell_stop c.check_parameters.result _ c.in_err-check_parameters.field-0.0 _ _ _ is c.check_parameters.ensures.answer c.in_err-check_parameters.was c.from_residual.ensures

pub returns-in_err-check_body-clause-answer : goal.returns-in_err-check_body-clause-answer
returns-in_err-check_body-clause-answer g c =
    let f = c.args.f.now in
    let old = known_in c.args.names.now in
    let mid = c.check_parameters.new.names in
    let body = demands_of (option_map stmts_of f.body) (λ ss. AreTypedStmts f.result ss (with_parameters (map parameter_of f.parameters) old) (parameter_names (map parameter_of f.parameters)) false) in
    let is = first_of_two (AreDistinct [] (map parameter_of f.parameters)) body ∙ ap (λ qs. option_or (first_unmet (AreDistinct [] (map parameter_of qs))) (first_unmet body)) (sym c.as_slice.ensures) in
    let rest = tell_skip c.check_parameters.result _ _ _ _ is c.check_parameters.ensures.answer c.in_ok-check_parameters.was in
    let known = c.in_ok-check_parameters.ensures.known ∙ ap (λ qs. with_parameters (map parameter_of qs) old) c.as_slice.ensures in
    let at_body : first_unmet (demands_of (option_map stmts_of f.body) (λ ss. AreTypedStmts f.result ss (known_in mid) (parameter_names (map parameter_of c.as_slice.result.now)) false)) ≡ first_unmet body = (λ i. first_unmet (demands_of (option_map stmts_of f.body) (λ ss. AreTypedStmts f.result ss (known i) (parameter_names (map parameter_of (c.as_slice.ensures i))) false))) in
    let declared = subst (λ n. AreDeclared n mid (parameter_names (map parameter_of c.as_slice.result.now))) (sym c.len-outer.ensures) c.in_ok-check_parameters.ensures.declared in
    tell_same c.check_body.result _ c.in_err-check_body.field-0.0 _ _ (at_body ∙ sym rest) (c.check_body.ensures.answer _ declared) c.in_err-check_body.was c.from_residual-in_err-check_body.ensures

pub returns-clause-answer : goal.returns-clause-answer
returns-clause-answer g c =
    let f = c.args.f.now in
    let old = known_in c.args.names.now in
    let mid = c.check_parameters.new.names in
    let body = demands_of (option_map stmts_of f.body) (λ ss. AreTypedStmts f.result ss (with_parameters (map parameter_of f.parameters) old) (parameter_names (map parameter_of f.parameters)) false) in
    let is = first_of_two (AreDistinct [] (map parameter_of f.parameters)) body ∙ ap (λ qs. option_or (first_unmet (AreDistinct [] (map parameter_of qs))) (first_unmet body)) (sym c.as_slice.ensures) in
    let rest = tell_skip c.check_parameters.result _ _ _ _ is c.check_parameters.ensures.answer c.in_ok-check_parameters.was in
    let known = c.in_ok-check_parameters.ensures.known ∙ ap (λ qs. with_parameters (map parameter_of qs) old) c.as_slice.ensures in
    let at_body : first_unmet (demands_of (option_map stmts_of f.body) (λ ss. AreTypedStmts f.result ss (known_in mid) (parameter_names (map parameter_of c.as_slice.result.now)) false)) ≡ first_unmet body = (λ i. first_unmet (demands_of (option_map stmts_of f.body) (λ ss. AreTypedStmts f.result ss (known i) (parameter_names (map parameter_of (c.as_slice.ensures i))) false))) in
    let declared = subst (λ n. AreDeclared n mid (parameter_names (map parameter_of c.as_slice.result.now))) (sym c.len-outer.ensures) c.in_ok-check_parameters.ensures.declared in
    c.in_ok-check_body.ensures.answer _ declared ∙ at_body ∙ sym rest

pub returns-clause-same : goal.returns-clause-same
returns-clause-same g c =
    let old = c.args.names.now in
    let mid = c.check_parameters.new.names in
    let new = c.check_body.new.names in
    let grown = grows_on old mid new c.in_ok-check_parameters.ensures.count c.in_ok-check_parameters.ensures.grows c.in_ok-check_body.ensures.grows in
    left old new c.leave.new.self grown (c.leave.ensures.locals ∙ ap (λ n. take n (locals_of new)) c.len-outer.ensures) c.leave.ensures.file
