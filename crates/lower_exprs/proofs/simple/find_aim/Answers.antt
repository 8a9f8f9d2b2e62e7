use Rattle.std.proofs.Common.{Some, option_map, append-nil, ap, refl, sym, ◌∙◌}
use Rattle.syntax.specs.Names.{global_of, newest}
use Rattle.syntax.specs.Views.{expr_of}
use Rattle.selection.specs.Expressions.{emit}
use Rattle.selection.specs.Simples.{target_code, element_target, variable_target}
use Rattle.lower_exprs.specs.Lists.{lists_of}
use Rattle.lower_exprs.specs.Views.{scope_in}
use Rattle.program_tables.specs.Views.{program_in}
use Rattle.lower_exprs.specs.inner.Stretches.{in_place, of_aim}
use Rattle.program_tables.specs.Entries.{shared_in}
use Rattle.lower_exprs.proofs.Adding.{same, in_turn, no_less, stops}
use Rattle.lower_exprs.proofs.Nodes.{variable_is, element_is}
use Rattle.lower_exprs.proofs.simple.find_aim.Goals as goal

pub returns-in-Variable : goal.returns-in-Variable
returns-in-Variable g c =
    let named = ap (λ x. of_aim (variable_target (newest (scope_in c.args.scope.now) x) (global_of (program_in c.args.names.now) x) c.args.from (lists_of c.args.lists.now))) c.as_str.ensures in
    same (named ∙ ap (λ y. of_aim (target_code (program_in c.args.names.now) (scope_in c.args.scope.now) c.args.check y c.args.from c.args.free (lists_of c.args.lists.now))) (sym (variable_is c.in-Variable.is))) (c.aim_variable.ensures c.args.code.now.items)

pub returns-in_ok-i-in-Some : goal.returns-in_ok-i-in-Some
returns-in_ok-i-in-Some g c =
    let found = c.in-Some.ensures.value ∙ ap (global_of (program_in c.args.names.now)) c.as_str-in-Element.ensures in
    let index = emit (program_in c.args.names.now) (scope_in c.args.scope.now) (expr_of c.get.result.now) c.args.from c.args.free c.args.free (lists_of c.args.lists.now) in
    let x = shared_in c.in-Some.g in
    let i = c.in_ok-i-in-Some.ensures in
    let there = ap (λ o. of_aim (element_target c.args.check o index c.args.from (lists_of c.args.lists.now))) found ∙ ap (λ y. of_aim (target_code (program_in c.args.names.now) (scope_in c.args.scope.now) c.args.check y c.args.from c.args.free (lists_of c.args.lists.now))) (sym (element_is c.in-Element.is c.get.ensures)) in
    same there (in_turn i (λ j. of_aim (element_target c.args.check (Some x) (in_place (i.end j) (i.lists j)) (i.end j).to (i.lists j))) (c.put_check.ensures (lists_of c.lower_expr.new.lists)))

pub returns-in_err-i-in-Some : goal.returns-in_err-i-in-Some
returns-in_err-i-in-Some g c =
    let found = c.in-Some.ensures.value ∙ ap (global_of (program_in c.args.names.now)) c.as_str-in-Element.ensures in
    let index = emit (program_in c.args.names.now) (scope_in c.args.scope.now) (expr_of c.get.result.now) c.args.from c.args.free c.args.free (lists_of c.args.lists.now) in
    let there = ap (λ o. of_aim (element_target c.args.check o index c.args.from (lists_of c.args.lists.now))) found ∙ ap (λ y. of_aim (target_code (program_in c.args.names.now) (scope_in c.args.scope.now) c.args.check y c.args.from c.args.free (lists_of c.args.lists.now))) (sym (element_is c.in-Element.is c.get.ensures)) in
    same there (stops c.lower_expr.ensures c.in_err-i-in-Some.was c.from_residual.ensures (no_less _))

pub returns-in-None : goal.returns-in-None
returns-in-None g c =
    let found = sym (ap (option_map shared_in) c.in-None.is) ∙ c.global.ensures.value ∙ ap (global_of (program_in c.args.names.now)) c.as_str-in-Element.ensures in
    let index = emit (program_in c.args.names.now) (scope_in c.args.scope.now) (expr_of c.in-Element.index) c.args.from c.args.free c.args.free (lists_of c.args.lists.now) in
    let there = ap (λ o. of_aim (element_target c.args.check o index c.args.from (lists_of c.args.lists.now))) found ∙ ap (λ y. of_aim (target_code (program_in c.args.names.now) (scope_in c.args.scope.now) c.args.check y c.args.from c.args.free (lists_of c.args.lists.now))) (sym (element_is c.in-Element.is refl)) in
    same there (record { code = sym (append-nil c.args.code.now.items); lists = refl; end = c.aim_at.ensures; fails = tt })
