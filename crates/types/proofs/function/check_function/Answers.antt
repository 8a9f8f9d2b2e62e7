use Rattle.std.proofs.Common.{◌≡◌, ◌∷◌, ◌++◌, [], map, false, option_map, sym, ◌∙◌}
use Rattle.syntax.specs.Tree.{Defines}
use Rattle.syntax.specs.Views.{function_of, item_of, parameter_of, stmts_of}
use Rattle.syntax.specs.Types.{file_scope}
use Rattle.syntax.specs.Typing.{parameter_names, with_parameters}
use Rattle.syntax.specs.Typing.{first_unmet, demands_of, AreDistinct, AreTypedStmts}
use Rattle.types.specs.inner.Known.{known_in}
use Rattle.types.proofs.Grown.{same_known, same_count}
use Rattle.types.proofs.Stmts.{typed_function}
use Rattle.types.proofs.Steps.{skip, stop_at, tell_same}
use Rattle.types.proofs.function.check_function.Goals as goal

pub returns-in_err-check_declared-clause-answer : goal.returns-in_err-check_declared-clause-answer
returns-in_err-check_declared-clause-answer g c =
    stop_at c.check_declared.result _ c.in_err-check_declared.field-0.0 _ _ _ (typed_function (map item_of c.args.earlier.now) (function_of c.args.f.now)) c.check_declared.ensures c.in_err-check_declared.was c.from_residual.ensures

pub returns-in_err-check_inside-clause-answer : goal.returns-in_err-check_inside-clause-answer
returns-in_err-check_inside-clause-answer g c =
    let f = c.args.f.now in
    let rest = skip c.check_declared.result _ _ _ _ (typed_function (map item_of c.args.earlier.now) (function_of f)) c.check_declared.ensures c.in_ok-check_declared.was in
    let inside : first_unmet (AreDistinct [] (map parameter_of f.parameters) ++ demands_of (option_map stmts_of f.body) (λ ss. AreTypedStmts f.result ss (with_parameters (map parameter_of f.parameters) (known_in c.add_function.new.names)) (parameter_names (map parameter_of f.parameters)) false)) ≡ first_unmet (AreDistinct [] (map parameter_of f.parameters) ++ demands_of (option_map stmts_of f.body) (λ ss. AreTypedStmts f.result ss (with_parameters (map parameter_of f.parameters) (file_scope (map item_of c.args.earlier.now ++ Defines (function_of f) ∷ []))) (parameter_names (map parameter_of f.parameters)) false)) = (λ i. first_unmet (AreDistinct [] (map parameter_of f.parameters) ++ demands_of (option_map stmts_of f.body) (λ ss. AreTypedStmts f.result ss (with_parameters (map parameter_of f.parameters) (c.in_ok-add_function.ensures.known i)) (parameter_names (map parameter_of f.parameters)) false))) in
    tell_same c.check_inside.result _ c.in_err-check_inside.field-0.0 _ _ (inside ∙ sym rest) c.check_inside.ensures.answer c.in_err-check_inside.was c.from_residual-in_err-check_inside.ensures

pub returns-clause-answer : goal.returns-clause-answer
returns-clause-answer g c =
    let f = c.args.f.now in
    let rest = skip c.check_declared.result _ _ _ _ (typed_function (map item_of c.args.earlier.now) (function_of f)) c.check_declared.ensures c.in_ok-check_declared.was in
    let inside : first_unmet (AreDistinct [] (map parameter_of f.parameters) ++ demands_of (option_map stmts_of f.body) (λ ss. AreTypedStmts f.result ss (with_parameters (map parameter_of f.parameters) (known_in c.add_function.new.names)) (parameter_names (map parameter_of f.parameters)) false)) ≡ first_unmet (AreDistinct [] (map parameter_of f.parameters) ++ demands_of (option_map stmts_of f.body) (λ ss. AreTypedStmts f.result ss (with_parameters (map parameter_of f.parameters) (file_scope (map item_of c.args.earlier.now ++ Defines (function_of f) ∷ []))) (parameter_names (map parameter_of f.parameters)) false)) = (λ i. first_unmet (AreDistinct [] (map parameter_of f.parameters) ++ demands_of (option_map stmts_of f.body) (λ ss. AreTypedStmts f.result ss (with_parameters (map parameter_of f.parameters) (c.in_ok-add_function.ensures.known i)) (parameter_names (map parameter_of f.parameters)) false))) in
    c.in_ok-check_inside.ensures.answer ∙ inside ∙ sym rest

pub returns-clause-known : goal.returns-clause-known
returns-clause-known g c = same_known c.add_function.new.names c.check_inside.new.names c.in_ok-check_inside.ensures.same ∙ c.in_ok-add_function.ensures.known

pub returns-clause-none : goal.returns-clause-none
returns-clause-none g c = same_count c.add_function.new.names c.check_inside.new.names c.in_ok-check_inside.ensures.same ∙ c.add_function.ensures.none
