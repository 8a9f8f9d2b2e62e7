use Rattle.std.proofs.Common.{◌∙◌, ap, sym, map, not, ◌&&◌, ◌||◌, option_map, is_none}
use Rattle.syntax.specs.Views.{function_of, item_of, stmts_of}
use Rattle.syntax.specs.Types.{file_scope}
use Rattle.syntax.specs.Typing.{has_name, agrees, may_be_function, defined_names}
use Rattle.syntax.specs.Typing.{first_unmet, demand}
use Rattle.types.specs.inner.Known.{known_in}
use Rattle.types.proofs.Steps.{first_of_two, skip, stop}
use Rattle.types.proofs.Bodies.{free_right}
use Rattle.types.proofs.function.check_declared.Goals as goal

pub returns-in_err-demand : goal.returns-in_err-demand
returns-in_err-demand g c =
    let f = c.args.f.now in
    let x = f.name.text in
    let earlier = map item_of c.args.earlier.now in
    let k = file_scope earlier x in
    let d = has_name (defined_names earlier) x in
    let known = c.look-before.ensures ∙ ap (known_in c.args.names.now) c.as_str-name.ensures ∙ ap (λ s. s x) c.requires.known in
    let defined = c.has_body-defined.ensures earlier c.requires.defined ∙ ap (has_name (defined_names earlier)) c.as_str-name.ensures in
    let free = c.is_free-free.ensures ∙ (λ i. may_be_function (known i) && (not (c.is_some.ensures i) || not (defined i))) ∙ free_right stmts_of k f.body d in
    stop c.demand.result _ c.in_err-demand.field-0.0 _ _ _ (first_of_two (demand 21 f.name.span (may_be_function k && (is_none (option_map stmts_of f.body) || not d))) (demand 22 f.name.span (agrees (function_of f) k))) (c.demand.ensures ∙ ap (λ b. first_unmet (demand 21 f.name.span b)) free) c.in_err-demand.was c.from_residual.ensures

pub returns : goal.returns
returns g c =
    let f = c.args.f.now in
    let x = f.name.text in
    let earlier = map item_of c.args.earlier.now in
    let k = file_scope earlier x in
    let d = has_name (defined_names earlier) x in
    let known = c.look-before.ensures ∙ ap (known_in c.args.names.now) c.as_str-name.ensures ∙ ap (λ s. s x) c.requires.known in
    let defined = c.has_body-defined.ensures earlier c.requires.defined ∙ ap (has_name (defined_names earlier)) c.as_str-name.ensures in
    let free = c.is_free-free.ensures ∙ (λ i. may_be_function (known i) && (not (c.is_some.ensures i) || not (defined i))) ∙ free_right stmts_of k f.body d in
    let rest = skip c.demand.result _ _ _ _ (first_of_two (demand 21 f.name.span (may_be_function k && (is_none (option_map stmts_of f.body) || not d))) (demand 22 f.name.span (agrees (function_of f) k))) (c.demand.ensures ∙ ap (λ b. first_unmet (demand 21 f.name.span b)) free) c.in_ok-demand.was in
    c.demand-2.ensures ∙ ap (λ b. first_unmet (demand 22 f.name.span b)) (c.agrees-same.ensures ∙ ap (agrees (function_of f)) known) ∙ sym rest
