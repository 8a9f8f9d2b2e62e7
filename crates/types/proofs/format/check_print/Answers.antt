use Rattle.std.proofs.Common.{◌∙◌, ◌&&◌, ◌==◌, length, sym, ap}
use Rattle.syntax.specs.Views.{exprs_of}
use Rattle.syntax.specs.Formats.{is_format, pieces, specifiers}
use Rattle.syntax.specs.Typing.{count}
use Rattle.syntax.specs.Typing.{first_unmet, demand, AreNumbers, HaveTypes}
use Rattle.types.specs.inner.Known.{known_in}
use Rattle.types.proofs.Steps.{first_of_three, skip, stop}
use Rattle.types.proofs.format.check_print.Goals as goal

pub returns-in_err-check_numbers : goal.returns-in_err-check_numbers
returns-in_err-check_numbers g c =
    let k = known_in c.args.names.now in
    let es = exprs_of c.args.args.now in
    let printed = specifiers (pieces c.args.format.now) in
    let is = first_of_three (AreNumbers k es) (demand 27 c.args.span (is_format c.args.format.now && (length printed == count es))) (HaveTypes k printed es) in
    stop c.check_numbers.result _ c.in_err-check_numbers.field-0.0 _ _ _ is c.check_numbers.ensures c.in_err-check_numbers.was c.from_residual.ensures

pub returns-in_err-demand : goal.returns-in_err-demand
returns-in_err-demand g c =
    let k = known_in c.args.names.now in
    let es = exprs_of c.args.args.now in
    let printed = specifiers (pieces c.args.format.now) in
    let is = first_of_three (AreNumbers k es) (demand 27 c.args.span (is_format c.args.format.now && (length printed == count es))) (HaveTypes k printed es) in
    let right = c.is_right-right.ensures ∙ (λ i. is_format (c.as_bytes-bytes.ensures.value i) && (length (specifiers (pieces (c.as_bytes-bytes.ensures.value i))) == c.count_of.ensures i)) in
    stop c.demand.result _ c.in_err-demand.field-0.0 _ _ _ (skip c.check_numbers.result _ _ _ _ is c.check_numbers.ensures c.in_ok-check_numbers.was) (c.demand.ensures ∙ ap (λ b. first_unmet (demand 27 c.args.span b)) right) c.in_err-demand.was c.from_residual-in_err-demand.ensures

pub returns : goal.returns
returns g c =
    let k = known_in c.args.names.now in
    let es = exprs_of c.args.args.now in
    let printed = specifiers (pieces c.args.format.now) in
    let is = first_of_three (AreNumbers k es) (demand 27 c.args.span (is_format c.args.format.now && (length printed == count es))) (HaveTypes k printed es) in
    let right = c.is_right-right.ensures ∙ (λ i. is_format (c.as_bytes-bytes.ensures.value i) && (length (specifiers (pieces (c.as_bytes-bytes.ensures.value i))) == c.count_of.ensures i)) in
    c.check_specifiers.ensures
    ∙ ap (λ cs. first_unmet (HaveTypes k (specifiers (pieces cs)) es)) c.as_bytes-bytes.ensures.value
    ∙ sym (skip c.demand.result _ _ _ _ (skip c.check_numbers.result _ _ _ _ is c.check_numbers.ensures c.in_ok-check_numbers.was) (c.demand.ensures ∙ ap (λ b. first_unmet (demand 27 c.args.span b)) right) c.in_ok-demand.was)
