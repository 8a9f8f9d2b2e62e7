use Rattle.std.proofs.Common.{◌∙◌, sym, ap, option_map}
use Rattle.syntax.specs.Views.{expr_of}
use Rattle.syntax.specs.Typing.{returns_right}
use Rattle.syntax.specs.Typing.{demand, demands_of, first_unmet, IsTyped, GivesNumber}
use Rattle.types.specs.inner.Known.{known_in}
use Rattle.types.proofs.Steps.{first_of_three, skip, stop}
use Rattle.types.proofs.Types.{is_right}
use Rattle.types.proofs.stmt.check_return.Goals as goal

pub returns-in_err-check_value : goal.returns-in_err-check_value
returns-in_err-check_value g c =
    let e = option_map expr_of c.args.e.now in
    let is = first_of_three (demands_of e (IsTyped (known_in c.args.names.now))) (demand 22 c.args.span (returns_right c.args.gives e)) (demands_of e (GivesNumber (known_in c.args.names.now))) in
    stop c.check_value.result _ c.in_err-check_value.field-0.0 _ _ _ is c.check_value.ensures c.in_err-check_value.was c.from_residual.ensures

pub returns-in_err-demand : goal.returns-in_err-demand
returns-in_err-demand g c =
    let e = option_map expr_of c.args.e.now in
    let is = first_of_three (demands_of e (IsTyped (known_in c.args.names.now))) (demand 22 c.args.span (returns_right c.args.gives e)) (demands_of e (GivesNumber (known_in c.args.names.now))) in
    let right = is_right c.args.gives c.args.e.now c.returns_right-right.result c.is_some.result c.returns_right-right.ensures c.is_some.ensures in
    stop c.demand.result _ c.in_err-demand.field-0.0 _ _ _ (skip c.check_value.result _ _ _ _ is c.check_value.ensures c.in_ok-check_value.was) (c.demand.ensures ∙ ap (λ b. first_unmet (demand 22 c.args.span b)) right) c.in_err-demand.was c.from_residual-in_err-demand.ensures

pub returns : goal.returns
returns g c =
    let e = option_map expr_of c.args.e.now in
    let is = first_of_three (demands_of e (IsTyped (known_in c.args.names.now))) (demand 22 c.args.span (returns_right c.args.gives e)) (demands_of e (GivesNumber (known_in c.args.names.now))) in
    let right = is_right c.args.gives c.args.e.now c.returns_right-right.result c.is_some.result c.returns_right-right.ensures c.is_some.ensures in
    c.gives_numbers.ensures ∙ sym (skip c.demand.result _ _ _ _ (skip c.check_value.result _ _ _ _ is c.check_value.ensures c.in_ok-check_value.was) (c.demand.ensures ∙ ap (λ b. first_unmet (demand 22 c.args.span b)) right) c.in_ok-demand.was)
