use Rattle.std.proofs.Common.{◌∙◌, sym, ap, option_map}
use Rattle.syntax.specs.Views.{expr_of, simple_of, start_of}
use Rattle.syntax.specs.Typing.{scope_of_start}
use Rattle.syntax.specs.Typing.{demands_of, first_unmet, IsNumber, IsTypedSimple, IsTypedStart}
use Rattle.types.specs.inner.Unmet.{unmet_in}
use Rattle.types.specs.inner.Known.{known_in}
use Rattle.types.proofs.Steps.{first_of_three, skip, tell_skip, tell_stop, stop_at, tell_single}
use Rattle.types.proofs.stmt.check_head.Goals as goal

pub returns-in_err-check_start-clause-answer : goal.returns-in_err-check_start-clause-answer
returns-in_err-check_start-clause-answer g c =
    let k = scope_of_start (start_of c.args.head.now.start) (known_in c.args.names.now) in
    let is = first_of_three (IsTypedStart (known_in c.args.names.now) (start_of c.args.head.now.start)) (demands_of (option_map expr_of c.args.head.now.condition) (IsNumber k)) (demands_of (option_map simple_of c.args.head.now.step) (IsTypedSimple k)) in
    tell_stop c.check_start.result _ c.in_err-check_start.field-0.0 _ _ _ is c.check_start.ensures.answer c.in_err-check_start.was c.from_residual.ensures

pub returns-in_err-check_first-clause-answer : goal.returns-in_err-check_first-clause-answer
returns-in_err-check_first-clause-answer g c =
    let k = scope_of_start (start_of c.args.head.now.start) (known_in c.args.names.now) in
    let is = first_of_three (IsTypedStart (known_in c.args.names.now) (start_of c.args.head.now.start)) (demands_of (option_map expr_of c.args.head.now.condition) (IsNumber k)) (demands_of (option_map simple_of c.args.head.now.step) (IsTypedSimple k)) in
    let left = tell_skip c.check_start.result _ _ _ _ is c.check_start.ensures.answer c.in_ok-check_start.was in
    stop_at c.check_first.result _ c.in_err-check_first.field-0.0 _ _ _ left (c.check_first.ensures ∙ ap (λ s. first_unmet (demands_of (option_map expr_of c.args.head.now.condition) (IsNumber s))) c.in_ok-check_start.ensures.known) c.in_err-check_first.was c.from_residual-in_err-check_first.ensures

pub returns-in_err-check_step-clause-answer : goal.returns-in_err-check_step-clause-answer
returns-in_err-check_step-clause-answer g c =
    let k = scope_of_start (start_of c.args.head.now.start) (known_in c.args.names.now) in
    let is = first_of_three (IsTypedStart (known_in c.args.names.now) (start_of c.args.head.now.start)) (demands_of (option_map expr_of c.args.head.now.condition) (IsNumber k)) (demands_of (option_map simple_of c.args.head.now.step) (IsTypedSimple k)) in
    let left = tell_skip c.check_start.result _ _ _ _ is c.check_start.ensures.answer c.in_ok-check_start.was in
    let last = skip c.check_first.result _ _ _ _ left (c.check_first.ensures ∙ ap (λ s. first_unmet (demands_of (option_map expr_of c.args.head.now.condition) (IsNumber s))) c.in_ok-check_start.ensures.known) c.in_ok-check_first.was in
    tell_single c.check_step.result _ c.in_err-check_step.field-0.0 _ (c.check_step.ensures ∙ ap (λ s. first_unmet (demands_of (option_map simple_of c.args.head.now.step) (IsTypedSimple s))) c.in_ok-check_start.ensures.known ∙ sym last) c.in_err-check_step.was c.from_residual-in_err-check_step.ensures

pub returns-clause-answer : goal.returns-clause-answer
returns-clause-answer g c =
    let k = scope_of_start (start_of c.args.head.now.start) (known_in c.args.names.now) in
    let is = first_of_three (IsTypedStart (known_in c.args.names.now) (start_of c.args.head.now.start)) (demands_of (option_map expr_of c.args.head.now.condition) (IsNumber k)) (demands_of (option_map simple_of c.args.head.now.step) (IsTypedSimple k)) in
    let left = tell_skip c.check_start.result _ _ _ _ is c.check_start.ensures.answer c.in_ok-check_start.was in
    let last = skip c.check_first.result _ _ _ _ left (c.check_first.ensures ∙ ap (λ s. first_unmet (demands_of (option_map expr_of c.args.head.now.condition) (IsNumber s))) c.in_ok-check_start.ensures.known) c.in_ok-check_first.was in
    sym (ap unmet_in c.in_ok-check_step.was) ∙ c.check_step.ensures ∙ ap (λ s. first_unmet (demands_of (option_map simple_of c.args.head.now.step) (IsTypedSimple s))) c.in_ok-check_start.ensures.known ∙ sym last
