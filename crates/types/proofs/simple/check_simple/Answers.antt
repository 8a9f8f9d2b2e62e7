use Rattle.std.proofs.Common.{sym, ◌∙◌}
use Rattle.types.specs.inner.Known.{known_in}
use Rattle.types.proofs.Loops.{typed_assign, typed_step}
use Rattle.types.proofs.Steps.{skip, stop}
use Rattle.types.proofs.simple.check_simple.Goals as goal

pub returns-in_err-check_target-in-Assign : goal.returns-in_err-check_target-in-Assign
returns-in_err-check_target-in-Assign g c =
    let is = typed_assign (known_in c.args.names.now) c.args.s.now c.in-Assign.to c.in-Assign.field-1 c.in-Assign.e c.in-Assign.is in
    stop c.check_target.result _ c.in_err-check_target-in-Assign.field-0.0 _ _ _ is c.check_target.ensures c.in_err-check_target-in-Assign.was c.from_residual.ensures

pub returns-in_err-check_number-in-Assign : goal.returns-in_err-check_number-in-Assign
returns-in_err-check_number-in-Assign g c =
    let is = typed_assign (known_in c.args.names.now) c.args.s.now c.in-Assign.to c.in-Assign.field-1 c.in-Assign.e c.in-Assign.is in
    stop c.check_number.result _ c.in_err-check_number-in-Assign.field-0.0 _ _ _ (skip c.check_target.result _ _ _ _ is c.check_target.ensures c.in_ok-check_target-in-Assign.was) c.check_number.ensures c.in_err-check_number-in-Assign.was c.from_residual-in_err-check_number-in-Assign.ensures

pub returns-in_ok-check_number-in-Assign : goal.returns-in_ok-check_number-in-Assign
returns-in_ok-check_number-in-Assign g c =
    let is = typed_assign (known_in c.args.names.now) c.args.s.now c.in-Assign.to c.in-Assign.field-1 c.in-Assign.e c.in-Assign.is in
    c.check_assignable.ensures ∙ sym (skip c.check_number.result _ _ _ _ (skip c.check_target.result _ _ _ _ is c.check_target.ensures c.in_ok-check_target-in-Assign.was) c.check_number.ensures c.in_ok-check_number-in-Assign.was)

pub returns-in_err-check_target-in-Adjust : goal.returns-in_err-check_target-in-Adjust
returns-in_err-check_target-in-Adjust g c =
    let is = typed_step (known_in c.args.names.now) c.args.s.now c.in-Adjust.to c.in-Adjust.field-1 c.in-Adjust.is in
    stop c.check_target-in-Adjust.result _ c.in_err-check_target-in-Adjust.field-0.0 _ _ _ is c.check_target-in-Adjust.ensures c.in_err-check_target-in-Adjust.was c.from_residual-in_err-check_target-in-Adjust.ensures

pub returns-in_ok-check_target-in-Adjust : goal.returns-in_ok-check_target-in-Adjust
returns-in_ok-check_target-in-Adjust g c =
    let is = typed_step (known_in c.args.names.now) c.args.s.now c.in-Adjust.to c.in-Adjust.field-1 c.in-Adjust.is in
    c.check_assignable-in-Adjust.ensures ∙ sym (skip c.check_target-in-Adjust.result _ _ _ _ is c.check_target-in-Adjust.ensures c.in_ok-check_target-in-Adjust.was)
