use Rattle.std.proofs.Common.{◌+◌, ◌++◌, Some, option_map, map, drop, is_some, ap, sym, ◌∙◌, arith, refl}
use denote.Param.Weighed.{most, at_most}
use Rattle.syntax.specs.declared.tree.Expr as own_expr
use Rattle.syntax.specs.declared.tree.Expr.{the_lemmas}
use Rattle.syntax.proofs.tree.Expr.TheLaws.{the_size}
use Rattle.syntax.specs.Names.{global_of, newest}
use Rattle.syntax.specs.Numbers.{common, operand_type as due_type}
use Rattle.syntax.specs.Views.{name_of, parameter_of, expr_of, exprs_of}
use Rattle.selection.specs.Names.{callee_of}
use Rattle.selection.specs.Conditions.{zero_tested}
use Rattle.selection.specs.Expressions.{AllEmitted, in_own_transaction, negation, complement, logical_negation, constant, converting, variable, element, condition_value, call_code, value_into, types_of, taken_types, emitted_type, emit, as_type, condition, emit_all}
use Rattle.selection.specs.inner.Parts.{argument_value}
use Rattle.selection.proofs.Growing.{used_more, compared_more, condition_more}
use Rattle.lower_exprs.specs.Lists.{lists_of}
use Rattle.lower_exprs.specs.Views.{scope_in}
use Rattle.program_tables.specs.Views.{program_in}
use Rattle.lower_exprs.specs.Fragments.{of_value, of_test}
use Rattle.lower_exprs.specs.inner.Stretches.{in_place, all_in_place}
use Rattle.program_tables.specs.Entries.{shared_in}
use Rattle.lower_exprs.specs.inner.Callees.{callee_in}
use Rattle.lower_exprs.proofs.Adding.{same, noted, in_turn, gathered, value_alone, stops, no_less}
use Rattle.lower_exprs.proofs.Nodes.{variable_is, constant_is, call_is, element_is, parenthesized_is, cast_is, unary_is, binary_is, logical_is, conditional_is, in_transaction_is, value_there, test_there, value_test_there, due_constant, due_there, due_within, cast_test_there, cast_by_value}
use Rattle.lower_exprs.proofs.Conditional.{into_behind, condition_within, second_within, one_is, two_is, chosen_there}
use Rattle.lower_exprs.proofs.Operating.{left_within, right_within, left_constant, left_converted, left_there, right_there, whole_there}
use Rattle.lower_exprs.proofs.Within.{logical_within, arguments_within}
use Rattle.lower_exprs.proofs.Rows.{type_there, no_type, next_value, first_within, no_more_values}
use Rattle.lower_exprs.proofs.expr.+lower_expr.Goals as goal

pub lower_expr-returns : goal.lower_expr-returns
lower_expr-returns g t c = noted c.note.ensures c.in_ok-location.ensures

pub lower_expr-returns-in_err-location : goal.lower_expr-returns-in_err-location
lower_expr-returns-in_err-location g t c =
    stops c.lower_node.ensures c.in_err-location.was c.from_residual.ensures (no_less _)

pub lower_expr-lower_node-requires : goal.lower_expr-lower_node-requires
lower_expr-lower_node-requires g t c κs within = (omega (arith, c.decreases), within)

pub lower_node-returns-in-Parenthesized : goal.lower_node-returns-in-Parenthesized
lower_node-returns-in-Parenthesized g t c =
    value_there (program_in c.args.names.now) (scope_in c.args.scope.now) c.args.from c.args.into c.args.free (lists_of c.args.lists.now) (parenthesized_is c.in-Parenthesized.is c.get-in-Parenthesized.ensures) c.lower_expr-in-Parenthesized.ensures

pub lower_node-returns-in-Keep : goal.lower_node-returns-in-Keep
lower_node-returns-in-Keep g t c =
    value_there (program_in c.args.names.now) (scope_in c.args.scope.now) c.args.from c.args.into c.args.free (lists_of c.args.lists.now) (unary_is c.in-Unary.is c.in-Keep.is c.get-in-Keep.ensures) c.lower_expr-in-Keep.ensures

pub lower_node-returns-in-Constant : goal.lower_node-returns-in-Constant
lower_node-returns-in-Constant g t c =
    value_there (program_in c.args.names.now) (scope_in c.args.scope.now) c.args.from c.args.into c.args.free (lists_of c.args.lists.now) (constant_is c.in-Constant.is) c.put_number.ensures

pub lower_node-returns-in-Logical : goal.lower_node-returns-in-Logical
lower_node-returns-in-Logical g t c =
    value_there (program_in c.args.names.now) (scope_in c.args.scope.now) c.args.from c.args.into c.args.free (lists_of c.args.lists.now) (logical_is c.in-Logical.is c.get-in-Logical.ensures c.get-in-Logical-2.ensures) c.lower_logical.ensures

pub lower_node-returns-in-Conditional : goal.lower_node-returns-in-Conditional
lower_node-returns-in-Conditional g t c =
    value_there (program_in c.args.names.now) (scope_in c.args.scope.now) c.args.from c.args.into c.args.free (lists_of c.args.lists.now) (conditional_is c.in-Conditional.is c.get-in-Conditional.ensures c.get-in-Conditional-2.ensures c.get-in-Conditional-3.ensures) c.lower_conditional.ensures

pub lower_node-returns-in-InTransaction : goal.lower_node-returns-in-InTransaction
lower_node-returns-in-InTransaction g t c =
    value_there (program_in c.args.names.now) (scope_in c.args.scope.now) c.args.from c.args.into c.args.free (lists_of c.args.lists.now) (in_transaction_is c.in-InTransaction.is c.get-in-InTransaction.ensures) c.lower_in_transaction.ensures

pub lower_node-returns-in-Variable : goal.lower_node-returns-in-Variable
lower_node-returns-in-Variable g t c =
    let named = ap (λ x. of_value (variable (newest (scope_in c.args.scope.now) x) (global_of (program_in c.args.names.now) x) c.args.from c.args.into (lists_of c.args.lists.now))) c.as_str.ensures in
    value_there (program_in c.args.names.now) (scope_in c.args.scope.now) c.args.from c.args.into c.args.free (lists_of c.args.lists.now) (variable_is c.in-Variable.is) (same named c.lower_variable.ensures)

pub lower_node-returns-in-None : goal.lower_node-returns-in-None
lower_node-returns-in-None g t c =
    let found = sym (ap (option_map shared_in) c.in-None.is) ∙ c.global.ensures.value ∙ ap (global_of (program_in c.args.names.now)) c.as_str-in-Element.ensures in
    let index = emit (program_in c.args.names.now) (scope_in c.args.scope.now) (expr_of c.in-Element.index) c.args.from c.args.free c.args.free (lists_of c.args.lists.now) in
    value_there (program_in c.args.names.now) (scope_in c.args.scope.now) c.args.from c.args.into c.args.free (lists_of c.args.lists.now) (element_is c.in-Element.is refl) (same (ap (λ o. of_value (element o index c.args.from c.args.into (lists_of c.args.lists.now))) found) c.put_constant.ensures)

pub lower_node-returns-in_ok-i-in-Some : goal.lower_node-returns-in_ok-i-in-Some
lower_node-returns-in_ok-i-in-Some g t c =
    let found = c.in-Some.ensures.value ∙ ap (global_of (program_in c.args.names.now)) c.as_str-in-Element.ensures in
    let index = emit (program_in c.args.names.now) (scope_in c.args.scope.now) (expr_of c.get.result.now) c.args.from c.args.free c.args.free (lists_of c.args.lists.now) in
    let x = shared_in c.in-Some.g in
    let i = c.in_ok-i-in-Some.ensures in
    let made = in_turn i (λ j. of_value (element (Some x) (in_place (i.end j) (i.lists j)) (i.end j).to c.args.into (i.lists j))) c.put_read_at.ensures in
    value_there (program_in c.args.names.now) (scope_in c.args.scope.now) c.args.from c.args.into c.args.free (lists_of c.args.lists.now) (element_is c.in-Element.is c.get.ensures) (same (ap (λ o. of_value (element o index c.args.from c.args.into (lists_of c.args.lists.now))) found) made)

pub lower_node-returns-in_err-i-in-Some : goal.lower_node-returns-in_err-i-in-Some
lower_node-returns-in_err-i-in-Some g t c =
    let found = c.in-Some.ensures.value ∙ ap (global_of (program_in c.args.names.now)) c.as_str-in-Element.ensures in
    let index = emit (program_in c.args.names.now) (scope_in c.args.scope.now) (expr_of c.get.result.now) c.args.from c.args.free c.args.free (lists_of c.args.lists.now) in
    value_there (program_in c.args.names.now) (scope_in c.args.scope.now) c.args.from c.args.into c.args.free (lists_of c.args.lists.now) (element_is c.in-Element.is c.get.ensures)
    (same (ap (λ o. of_value (element o index c.args.from c.args.into (lists_of c.args.lists.now))) found)
    (stops c.lower_expr.ensures c.in_err-i-in-Some.was c.from_residual.ensures (used_more c.args.into index.lists)))

pub lower_node-returns-in-None-callee_of : goal.lower_node-returns-in-None-callee_of
lower_node-returns-in-None-callee_of g t c =
    let found = sym (ap (option_map callee_in) c.in-None-callee_of.is) ∙ c.callee_of.ensures ∙ ap (callee_of (program_in c.args.names.now)) c.as_str-in-Call.ensures in
    let args = emit_all (program_in c.args.names.now) (scope_in c.args.scope.now) (taken_types (callee_of (program_in c.args.names.now) (name_of c.in-Call.f).text)) (exprs_of c.in-Call.args) c.args.from c.args.free (lists_of c.args.lists.now) in
    value_there (program_in c.args.names.now) (scope_in c.args.scope.now) c.args.from c.args.into c.args.free (lists_of c.args.lists.now) (call_is c.in-Call.is refl) (same (ap (λ o. of_value (call_code o args c.args.from c.args.into (lists_of c.args.lists.now))) found) c.put_constant-in-None-callee_of.ensures)

pub lower_node-returns-in-Some-callee_of : goal.lower_node-returns-in-Some-callee_of
lower_node-returns-in-Some-callee_of g t c =
    let found = c.in-Some-callee_of.ensures ∙ ap (callee_of (program_in c.args.names.now)) c.as_str-in-Call.ensures in
    value_there (program_in c.args.names.now) (scope_in c.args.scope.now) c.args.from c.args.into c.args.free (lists_of c.args.lists.now) (call_is c.in-Call.is c.as_slice-all.ensures) (same (ap (λ o. of_value (call_code o (emit_all (program_in c.args.names.now) (scope_in c.args.scope.now) (taken_types o) (exprs_of c.as_slice-all.result.now) c.args.from c.args.free (lists_of c.args.lists.now)) c.args.from c.args.into (lists_of c.args.lists.now))) found) c.lower_call.ensures)

pub lower_node-returns-in_ok-a-in-Negate : goal.lower_node-returns-in_ok-a-in-Negate
lower_node-returns-in_ok-a-in-Negate g t c =
    let a = c.in_ok-a-in-Negate.ensures in
    value_there (program_in c.args.names.now) (scope_in c.args.scope.now) c.args.from c.args.into c.args.free (lists_of c.args.lists.now) (unary_is c.in-Unary.is c.in-Negate.is c.get-in-Negate.ensures) (in_turn a (λ j. of_value (negation (in_place (a.end j) (a.lists j)) c.args.into)) c.put_negated.ensures)

pub lower_node-returns-in_err-a-in-Negate : goal.lower_node-returns-in_err-a-in-Negate
lower_node-returns-in_err-a-in-Negate g t c =
    value_there (program_in c.args.names.now) (scope_in c.args.scope.now) c.args.from c.args.into c.args.free (lists_of c.args.lists.now) (unary_is c.in-Unary.is c.in-Negate.is c.get-in-Negate.ensures)
    (stops c.lower_expr-in-Negate.ensures c.in_err-a-in-Negate.was c.from_residual-in_err-a-in-Negate.ensures (used_more c.args.into (emit (program_in c.args.names.now) (scope_in c.args.scope.now) (expr_of c.get-in-Negate.result.now) c.args.from c.args.free c.args.free (lists_of c.args.lists.now)).lists))

pub lower_node-returns-in_ok-a-in-Complement : goal.lower_node-returns-in_ok-a-in-Complement
lower_node-returns-in_ok-a-in-Complement g t c =
    let a = c.in_ok-a-in-Complement.ensures in
    value_there (program_in c.args.names.now) (scope_in c.args.scope.now) c.args.from c.args.into c.args.free (lists_of c.args.lists.now) (unary_is c.in-Unary.is c.in-Complement.is c.get-in-Complement.ensures) (in_turn a (λ j. of_value (complement (in_place (a.end j) (a.lists j)) c.args.into)) c.put_complemented.ensures)

pub lower_node-returns-in_err-a-in-Complement : goal.lower_node-returns-in_err-a-in-Complement
lower_node-returns-in_err-a-in-Complement g t c =
    value_there (program_in c.args.names.now) (scope_in c.args.scope.now) c.args.from c.args.into c.args.free (lists_of c.args.lists.now) (unary_is c.in-Unary.is c.in-Complement.is c.get-in-Complement.ensures)
    (stops c.lower_expr-in-Complement.ensures c.in_err-a-in-Complement.was c.from_residual-in_err-a-in-Complement.ensures (used_more c.args.into (emit (program_in c.args.names.now) (scope_in c.args.scope.now) (expr_of c.get-in-Complement.result.now) c.args.from c.args.free c.args.free (lists_of c.args.lists.now)).lists))

pub lower_node-returns-in_ok-a-in-Not : goal.lower_node-returns-in_ok-a-in-Not
lower_node-returns-in_ok-a-in-Not g t c =
    let a = c.in_ok-a-in-Not.ensures in
    value_there (program_in c.args.names.now) (scope_in c.args.scope.now) c.args.from c.args.into c.args.free (lists_of c.args.lists.now) (unary_is c.in-Unary.is c.in-Not.is c.get-in-Not.ensures) (in_turn a (λ j. of_value (logical_negation (in_place (a.end j) (a.lists j)) c.args.into c.args.free)) c.put_compared.ensures)

pub lower_node-returns-in_err-a-in-Not : goal.lower_node-returns-in_err-a-in-Not
lower_node-returns-in_err-a-in-Not g t c =
    value_there (program_in c.args.names.now) (scope_in c.args.scope.now) c.args.from c.args.into c.args.free (lists_of c.args.lists.now) (unary_is c.in-Unary.is c.in-Not.is c.get-in-Not.ensures)
    (stops c.lower_expr-in-Not.ensures c.in_err-a-in-Not.was c.from_residual-in_err-a-in-Not.ensures (compared_more (emit (program_in c.args.names.now) (scope_in c.args.scope.now) (expr_of c.get-in-Not.result.now) c.args.from c.args.free c.args.free (lists_of c.args.lists.now)) c.args.into c.args.free))

pub lower_call-returns : goal.lower_call-returns
lower_call-returns g t c =
    let k = c.in_ok-to.ensures in
    let rs = c.as_slice.ensures ∙ k.registers ∙ ap (λ xs. xs ++ (emit_all (program_in c.args.names.now) (scope_in c.args.scope.now) (taken_types (Some (callee_in c.args.f))) (exprs_of c.args.all.now) c.args.from c.args.free (lists_of c.args.lists.now)).registers) c.requires in
    in_turn k.code (λ j. of_value (call_code (Some (callee_in c.args.f)) (all_in_place (rs j) (k.code.end j) (k.code.lists j)) (k.code.end j) c.args.into (k.code.lists j))) c.put_call.ensures

pub lower_call-returns-in_err-to : goal.lower_call-returns-in_err-to
lower_call-returns-in_err-to g t c =
    stops c.lower_all.ensures.code c.in_err-to.was c.from_residual.ensures (arguments_within (callee_in c.args.f) (emit_all (program_in c.args.names.now) (scope_in c.args.scope.now) (taken_types (Some (callee_in c.args.f))) (exprs_of c.args.all.now) c.args.from c.args.free (lists_of c.args.lists.now)) c.args.from c.args.into (lists_of c.args.lists.now))

pub lower_logical-returns : goal.lower_logical-returns
lower_logical-returns g t c =
    let a = c.in_ok-next.ensures in
    let b = in_turn a (λ j. of_test (condition (program_in c.args.names.now) (scope_in c.args.scope.now) (expr_of c.args.right.now) (a.end j) c.args.free (a.lists j))) c.in_ok-t.ensures in
    same (ap (λ k. of_value (condition_value k c.args.into)) (gathered b c.requires.test c.as_slice.ensures.value)) c.put_answers.ensures

pub lower_logical-returns-in_err-next : goal.lower_logical-returns-in_err-next
lower_logical-returns-in_err-next g t c =
    stops c.lower_first.ensures c.in_err-next.was c.from_residual.ensures (logical_within (program_in c.args.names.now) (scope_in c.args.scope.now) (expr_of c.args.left.now) (expr_of c.args.right.now) c.args.from c.args.into c.args.free (lists_of c.args.lists.now))

pub lower_logical-returns-in_err-t : goal.lower_logical-returns-in_err-t
lower_logical-returns-in_err-t g t c =
    let first = condition (program_in c.args.names.now) (scope_in c.args.scope.now) (expr_of c.args.left.now) c.args.from c.args.free (lists_of c.args.lists.now) in
    let second = condition (program_in c.args.names.now) (scope_in c.args.scope.now) (expr_of c.args.right.now) (first.to + 1) c.args.free first.lists in
    let a = c.in_ok-next.ensures in
    stops (in_turn a (λ j. of_test (condition (program_in c.args.names.now) (scope_in c.args.scope.now) (expr_of c.args.right.now) (a.end j) c.args.free (a.lists j))) c.lower_condition.ensures) c.in_err-t.was c.from_residual-in_err-t.ensures (used_more c.args.into second.lists)

pub lower_conditional-returns-in_err-t : goal.lower_conditional-returns-in_err-t
lower_conditional-returns-in_err-t g t c =
    stops c.lower_condition.ensures c.in_err-t.was c.from_residual.ensures (condition_within (program_in c.args.names.now) (scope_in c.args.scope.now) (expr_of c.args.c.now) (expr_of c.args.left.now) (expr_of c.args.right.now) c.args.from c.args.into c.args.free (lists_of c.args.lists.now))

pub lower_into-returns-clause-code : goal.lower_into-returns-clause-code
lower_into-returns-clause-code g t c =
    let k = c.in_ok-location.ensures in
    same (into_behind c.args.into (as_type (program_in c.args.names.now) (scope_in c.args.scope.now) c.args.ty (expr_of c.args.e.now) c.args.from c.args.into c.args.free (lists_of c.args.lists.now)))
    (in_turn k (λ j. of_value (value_into c.args.into (in_place (k.end j) (k.lists j)))) c.put_into.ensures.code)

pub lower_in_transaction-returns : goal.lower_in_transaction-returns
lower_in_transaction-returns g t c =
    let next = ap of_value (λ j. emit (program_in c.args.names.now) (scope_in c.args.scope.now) (expr_of c.args.e.now) (c.in_ok-next.ensures j) c.args.into c.args.free (c.note.ensures j)) in
    let value = value_alone (same next c.in_ok-location.ensures) c.new-operand.ensures.items in
    same (ap (λ v. of_value (in_own_transaction v)) value) (c.put_in_transaction.ensures (lists_of c.lower_expr.new.lists))

pub lower_condition-returns-in-Parenthesized : goal.lower_condition-returns-in-Parenthesized
lower_condition-returns-in-Parenthesized g t c =
    test_there (program_in c.args.names.now) (scope_in c.args.scope.now) c.args.from c.args.free (lists_of c.args.lists.now) (parenthesized_is c.in-Parenthesized.is c.get.ensures) c.lower_condition.ensures

pub lower_condition-returns-in-Keep : goal.lower_condition-returns-in-Keep
lower_condition-returns-in-Keep g t c =
    test_there (program_in c.args.names.now) (scope_in c.args.scope.now) c.args.from c.args.free (lists_of c.args.lists.now) (unary_is c.in-Unary.is c.in-Keep.is c.get-in-Keep.ensures) c.lower_condition-in-Keep.ensures

pub lower_condition-returns-in-Not : goal.lower_condition-returns-in-Not
lower_condition-returns-in-Not g t c =
    test_there (program_in c.args.names.now) (scope_in c.args.scope.now) c.args.from c.args.free (lists_of c.args.lists.now) (unary_is c.in-Unary.is c.in-Not.is c.get-in-Not.ensures) c.lower_opposite.ensures

pub lower_condition-returns-in_ok-next-in-Logical : goal.lower_condition-returns-in_ok-next-in-Logical
lower_condition-returns-in_ok-next-in-Logical g t c =
    let a = c.in_ok-next-in-Logical.ensures in
    test_there (program_in c.args.names.now) (scope_in c.args.scope.now) c.args.from c.args.free (lists_of c.args.lists.now) (logical_is c.in-Logical.is c.get-in-Logical.ensures c.get-in-Logical-2.ensures) (in_turn a (λ j. of_test (condition (program_in c.args.names.now) (scope_in c.args.scope.now) (expr_of c.get-in-Logical-2.result.now) (a.end j) c.args.free (a.lists j))) c.lower_condition-in-Logical.ensures)

pub lower_condition-returns-in_err-next-in-Logical : goal.lower_condition-returns-in_err-next-in-Logical
lower_condition-returns-in_err-next-in-Logical g t c =
    let first = condition (program_in c.args.names.now) (scope_in c.args.scope.now) (expr_of c.get-in-Logical.result.now) c.args.from c.args.free (lists_of c.args.lists.now) in
    test_there (program_in c.args.names.now) (scope_in c.args.scope.now) c.args.from c.args.free (lists_of c.args.lists.now) (logical_is c.in-Logical.is c.get-in-Logical.ensures refl)
    (stops c.lower_first.ensures c.in_err-next-in-Logical.was c.from_residual.ensures (condition_more (program_in c.args.names.now) (scope_in c.args.scope.now) (expr_of c.in-Logical.b) (first.to + 1) c.args.free first.lists))

pub lower_condition-returns-in-Negate : goal.lower_condition-returns-in-Negate
lower_condition-returns-in-Negate g t c =
    value_test_there (program_in c.args.names.now) (scope_in c.args.scope.now) c.args.from c.args.free (lists_of c.args.lists.now) (unary_is c.in-Unary.is c.in-Negate.is refl) refl c.lower_value-in-Negate.ensures

pub lower_condition-returns-in-Complement : goal.lower_condition-returns-in-Complement
lower_condition-returns-in-Complement g t c =
    value_test_there (program_in c.args.names.now) (scope_in c.args.scope.now) c.args.from c.args.free (lists_of c.args.lists.now) (unary_is c.in-Unary.is c.in-Complement.is refl) refl c.lower_value-in-Complement.ensures

pub lower_condition-returns-in-Element : goal.lower_condition-returns-in-Element
lower_condition-returns-in-Element g t c =
    value_test_there (program_in c.args.names.now) (scope_in c.args.scope.now) c.args.from c.args.free (lists_of c.args.lists.now) (element_is c.in-Element.is refl) refl c.lower_value-in-Element.ensures

pub lower_condition-returns-in-Call : goal.lower_condition-returns-in-Call
lower_condition-returns-in-Call g t c =
    value_test_there (program_in c.args.names.now) (scope_in c.args.scope.now) c.args.from c.args.free (lists_of c.args.lists.now) (call_is c.in-Call.is refl) refl c.lower_value-in-Call.ensures

pub lower_condition-returns-in-Conditional : goal.lower_condition-returns-in-Conditional
lower_condition-returns-in-Conditional g t c =
    value_test_there (program_in c.args.names.now) (scope_in c.args.scope.now) c.args.from c.args.free (lists_of c.args.lists.now) (conditional_is c.in-Conditional.is refl refl refl) refl c.lower_value-in-Conditional.ensures

pub lower_condition-returns-in-InTransaction : goal.lower_condition-returns-in-InTransaction
lower_condition-returns-in-InTransaction g t c =
    value_test_there (program_in c.args.names.now) (scope_in c.args.scope.now) c.args.from c.args.free (lists_of c.args.lists.now) (in_transaction_is c.in-InTransaction.is refl) refl c.lower_value-in-InTransaction.ensures

pub lower_condition-returns-in-Variable : goal.lower_condition-returns-in-Variable
lower_condition-returns-in-Variable g t c =
    value_test_there (program_in c.args.names.now) (scope_in c.args.scope.now) c.args.from c.args.free (lists_of c.args.lists.now) (variable_is c.in-Variable.is) refl c.lower_value-in-Variable.ensures

pub lower_condition-returns-in-Constant : goal.lower_condition-returns-in-Constant
lower_condition-returns-in-Constant g t c =
    value_test_there (program_in c.args.names.now) (scope_in c.args.scope.now) c.args.from c.args.free (lists_of c.args.lists.now) (constant_is c.in-Constant.is) refl c.lower_value-in-Constant.ensures

pub lower_condition-returns-in-None : goal.lower_condition-returns-in-None
lower_condition-returns-in-None g t c =
    let own = condition (program_in c.args.names.now) (scope_in c.args.scope.now) (expr_of c.in-Binary.a) c.args.from c.args.free (lists_of c.args.lists.now) in
    value_test_there (program_in c.args.names.now) (scope_in c.args.scope.now) c.args.from c.args.free (lists_of c.args.lists.now) (binary_is c.in-Binary.is refl c.get-in-Binary.ensures) (ap (λ o. zero_tested o own) (sym c.zero_test.ensures ∙ c.in-None.is)) c.lower_value-in-None.ensures

pub lower_node-lower_call-requires : goal.lower_node-lower_call-requires
lower_node-lower_call-requires g t c κs within =
    let size = simp the_lemmas at (ap (the_size g.row.A g.A.Allocator g.A.laws) c.in-Call.is) in
    let here = ap (most (the_size g.row.A g.A.Allocator g.A.laws)) c.as_slice-all.ensures in
    (omega (arith, size, here, c.decreases), (within, (omega arith, c.new-registers.ensures.items)))

pub lower_node-lower_expr-requires : goal.lower_node-lower_expr-requires
lower_node-lower_expr-requires g t c κs within =
    let size = simp the_lemmas at (ap (the_size g.row.A g.A.Allocator g.A.laws) c.in-Element.is) in
    let here = ap (the_size g.row.A g.A.Allocator g.A.laws) c.get.ensures in
    (omega (arith, size, here, c.decreases), within)

pub lower_node-lower_expr-requires-in-Parenthesized : goal.lower_node-lower_expr-requires-in-Parenthesized
lower_node-lower_expr-requires-in-Parenthesized g t c κs within =
    let size = simp the_lemmas at (ap (the_size g.row.A g.A.Allocator g.A.laws) c.in-Parenthesized.is) in
    let here = ap (the_size g.row.A g.A.Allocator g.A.laws) c.get-in-Parenthesized.ensures in
    (omega (arith, size, here, c.decreases), within)

pub lower_node-lower_expr-requires-in-Keep : goal.lower_node-lower_expr-requires-in-Keep
lower_node-lower_expr-requires-in-Keep g t c κs within =
    let size = simp the_lemmas at (ap (the_size g.row.A g.A.Allocator g.A.laws) c.in-Unary.is) in
    let here = ap (the_size g.row.A g.A.Allocator g.A.laws) c.get-in-Keep.ensures in
    (omega (arith, size, here, c.decreases), within)

pub lower_node-lower_expr-requires-in-Negate : goal.lower_node-lower_expr-requires-in-Negate
lower_node-lower_expr-requires-in-Negate g t c κs within =
    let size = simp the_lemmas at (ap (the_size g.row.A g.A.Allocator g.A.laws) c.in-Unary.is) in
    let here = ap (the_size g.row.A g.A.Allocator g.A.laws) c.get-in-Negate.ensures in
    (omega (arith, size, here, c.decreases), within)

pub lower_node-lower_expr-requires-in-Not : goal.lower_node-lower_expr-requires-in-Not
lower_node-lower_expr-requires-in-Not g t c κs within =
    let size = simp the_lemmas at (ap (the_size g.row.A g.A.Allocator g.A.laws) c.in-Unary.is) in
    let here = ap (the_size g.row.A g.A.Allocator g.A.laws) c.get-in-Not.ensures in
    (omega (arith, size, here, c.decreases), within)

pub lower_node-lower_expr-requires-in-Complement : goal.lower_node-lower_expr-requires-in-Complement
lower_node-lower_expr-requires-in-Complement g t c κs within =
    let size = simp the_lemmas at (ap (the_size g.row.A g.A.Allocator g.A.laws) c.in-Unary.is) in
    let here = ap (the_size g.row.A g.A.Allocator g.A.laws) c.get-in-Complement.ensures in
    (omega (arith, size, here, c.decreases), within)

pub lower_node-lower_logical-requires : goal.lower_node-lower_logical-requires
lower_node-lower_logical-requires g t c κs within =
    let parts = c.in-Logical.is ∙ (λ j. own_expr.Logical c.in-Logical.op (sym c.get-in-Logical.ensures j) (sym c.get-in-Logical-2.ensures j) c.in-Logical.at) in
    (omega (arith, c.decreases), (within, (c.new-test.ensures.items, parts)))

pub lower_node-lower_conditional-requires : goal.lower_node-lower_conditional-requires
lower_node-lower_conditional-requires g t c κs within =
    let parts = c.in-Conditional.is ∙ (λ j. own_expr.Conditional (sym c.get-in-Conditional.ensures j) (sym c.get-in-Conditional-2.ensures j) (sym c.get-in-Conditional-3.ensures j) c.in-Conditional.at) in
    (omega (arith, c.decreases), (within, (c.new-test-in-Conditional.ensures.items, (c.new-first.ensures.items, (c.new-second.ensures.items, parts)))))

pub lower_node-lower_in_transaction-requires : goal.lower_node-lower_in_transaction-requires
lower_node-lower_in_transaction-requires g t c κs within =
    let size = simp the_lemmas at (ap (the_size g.row.A g.A.Allocator g.A.laws) c.in-InTransaction.is) in
    let here = ap (the_size g.row.A g.A.Allocator g.A.laws) c.get-in-InTransaction.ensures in
    (omega (arith, size, here, c.decreases), within)

pub lower_call-lower_all-requires : goal.lower_call-lower_all-requires
lower_call-lower_all-requires g t c κs within = (omega (arith, c.decreases), (within, omega arith))

pub lower_in_transaction-lower_expr-requires : goal.lower_in_transaction-lower_expr-requires
lower_in_transaction-lower_expr-requires g t c κs within = (omega (arith, c.decreases), within)

pub lower_value-lower_expr-requires : goal.lower_value-lower_expr-requires
lower_value-lower_expr-requires g t c κs within = (omega (arith, c.decreases), within)

pub lower_opposite-lower_condition-requires : goal.lower_opposite-lower_condition-requires
lower_opposite-lower_condition-requires g t c κs within = (omega (arith, c.decreases), within)

pub lower_first-lower_condition-requires : goal.lower_first-lower_condition-requires
lower_first-lower_condition-requires g t c κs within = (omega (arith, c.decreases), within)

pub lower_logical-lower_first-requires : goal.lower_logical-lower_first-requires
lower_logical-lower_first-requires g t c κs within =
    let size = simp the_lemmas at (ap (the_size g.row.A g.A.Allocator g.A.laws) c.requires.parts) in
    (omega (arith, size, c.decreases), within)

pub lower_logical-lower_condition-requires : goal.lower_logical-lower_condition-requires
lower_logical-lower_condition-requires g t c κs within =
    let size = simp the_lemmas at (ap (the_size g.row.A g.A.Allocator g.A.laws) c.requires.parts) in
    (omega (arith, size, c.decreases), within)

pub lower_conditional-lower_condition-requires : goal.lower_conditional-lower_condition-requires
lower_conditional-lower_condition-requires g t c κs within =
    let size = simp the_lemmas at (ap (the_size g.row.A g.A.Allocator g.A.laws) c.requires.parts) in
    (omega (arith, size, c.decreases), within)

pub lower_conditional-lower_into-requires : goal.lower_conditional-lower_into-requires
lower_conditional-lower_into-requires g t c κs within =
    let size = simp the_lemmas at (ap (the_size g.row.A g.A.Allocator g.A.laws) c.requires.parts) in
    (omega (arith, size, c.decreases), within)

pub lower_conditional-lower_into-requires-2 : goal.lower_conditional-lower_into-requires-2
lower_conditional-lower_into-requires-2 g t c κs within =
    let size = simp the_lemmas at (ap (the_size g.row.A g.A.Allocator g.A.laws) c.requires.parts) in
    (omega (arith, size, c.decreases), within)

pub lower_condition-lower_condition-requires : goal.lower_condition-lower_condition-requires
lower_condition-lower_condition-requires g t c κs within =
    let size = simp the_lemmas at (ap (the_size g.row.A g.A.Allocator g.A.laws) c.in-Parenthesized.is) in
    let here = ap (the_size g.row.A g.A.Allocator g.A.laws) c.get.ensures in
    (omega (arith, size, here, c.decreases), within)

pub lower_condition-lower_condition-requires-in-Keep : goal.lower_condition-lower_condition-requires-in-Keep
lower_condition-lower_condition-requires-in-Keep g t c κs within =
    let size = simp the_lemmas at (ap (the_size g.row.A g.A.Allocator g.A.laws) c.in-Unary.is) in
    let here = ap (the_size g.row.A g.A.Allocator g.A.laws) c.get-in-Keep.ensures in
    (omega (arith, size, here, c.decreases), within)

pub lower_condition-lower_condition-requires-in-Some-false : goal.lower_condition-lower_condition-requires-in-Some-false
lower_condition-lower_condition-requires-in-Some-false g t c κs within =
    let size = simp the_lemmas at (ap (the_size g.row.A g.A.Allocator g.A.laws) c.in-Binary.is) in
    let here = ap (the_size g.row.A g.A.Allocator g.A.laws) c.get-in-Some-false.ensures in
    (omega (arith, size, here, c.decreases), within)

pub lower_condition-lower_condition-requires-in-Logical : goal.lower_condition-lower_condition-requires-in-Logical
lower_condition-lower_condition-requires-in-Logical g t c κs within =
    let size = simp the_lemmas at (ap (the_size g.row.A g.A.Allocator g.A.laws) c.in-Logical.is) in
    let here = ap (the_size g.row.A g.A.Allocator g.A.laws) c.get-in-Logical-2.ensures in
    (omega (arith, size, here, c.decreases), within)

pub lower_condition-lower_opposite-requires : goal.lower_condition-lower_opposite-requires
lower_condition-lower_opposite-requires g t c κs within =
    let size = simp the_lemmas at (ap (the_size g.row.A g.A.Allocator g.A.laws) c.in-Unary.is) in
    let here = ap (the_size g.row.A g.A.Allocator g.A.laws) c.get-in-Not.ensures in
    (omega (arith, size, here, c.decreases), within)

pub lower_condition-lower_opposite-requires-in-Some-true : goal.lower_condition-lower_opposite-requires-in-Some-true
lower_condition-lower_opposite-requires-in-Some-true g t c κs within =
    let size = simp the_lemmas at (ap (the_size g.row.A g.A.Allocator g.A.laws) c.in-Binary.is) in
    let here = ap (the_size g.row.A g.A.Allocator g.A.laws) c.get-in-Some-true.ensures in
    (omega (arith, size, here, c.decreases), within)

pub lower_condition-lower_first-requires : goal.lower_condition-lower_first-requires
lower_condition-lower_first-requires g t c κs within =
    let size = simp the_lemmas at (ap (the_size g.row.A g.A.Allocator g.A.laws) c.in-Logical.is) in
    let here = ap (the_size g.row.A g.A.Allocator g.A.laws) c.get-in-Logical.ensures in
    (omega (arith, size, here, c.decreases), within)

pub lower_condition-lower_value-requires-in-Negate : goal.lower_condition-lower_value-requires-in-Negate
lower_condition-lower_value-requires-in-Negate g t c κs within = (omega (arith, c.decreases), within)

pub lower_condition-lower_value-requires-in-Complement : goal.lower_condition-lower_value-requires-in-Complement
lower_condition-lower_value-requires-in-Complement g t c κs within = (omega (arith, c.decreases), within)

pub lower_condition-lower_value-requires-in-None : goal.lower_condition-lower_value-requires-in-None
lower_condition-lower_value-requires-in-None g t c κs within = (omega (arith, c.decreases), within)

pub lower_condition-lower_value-requires-in-Variable : goal.lower_condition-lower_value-requires-in-Variable
lower_condition-lower_value-requires-in-Variable g t c κs within = (omega (arith, c.decreases), within)

pub lower_condition-lower_value-requires-in-Constant : goal.lower_condition-lower_value-requires-in-Constant
lower_condition-lower_value-requires-in-Constant g t c κs within = (omega (arith, c.decreases), within)

pub lower_condition-lower_value-requires-in-Element : goal.lower_condition-lower_value-requires-in-Element
lower_condition-lower_value-requires-in-Element g t c κs within = (omega (arith, c.decreases), within)

pub lower_condition-lower_value-requires-in-Call : goal.lower_condition-lower_value-requires-in-Call
lower_condition-lower_value-requires-in-Call g t c κs within = (omega (arith, c.decreases), within)

pub lower_condition-lower_value-requires-in-Conditional : goal.lower_condition-lower_value-requires-in-Conditional
lower_condition-lower_value-requires-in-Conditional g t c κs within = (omega (arith, c.decreases), within)

pub lower_condition-lower_value-requires-in-InTransaction : goal.lower_condition-lower_value-requires-in-InTransaction
lower_condition-lower_value-requires-in-InTransaction g t c κs within = (omega (arith, c.decreases), within)

pub lower_node-returns-in-Cast : goal.lower_node-returns-in-Cast
lower_node-returns-in-Cast g t c =
    value_there (program_in c.args.names.now) (scope_in c.args.scope.now) c.args.from c.args.into c.args.free (lists_of c.args.lists.now) (cast_is c.in-Cast.is c.get-in-Cast.ensures) c.lower_as.ensures

pub lower_conditional-returns : goal.lower_conditional-returns
lower_conditional-returns g t c =
    let ty = c.common_type-ty.ensures ∙ (λ j. common (c.value_type-own.ensures j) (c.value_type-another.ensures j)) in
    let one = ap of_value (one_is (program_in c.args.names.now) (scope_in c.args.scope.now) (expr_of c.args.c.now) (expr_of c.args.left.now) (expr_of c.args.right.now) c.args.from c.args.into c.args.free (lists_of c.args.lists.now) c.in_ok-t.ensures c.in_ok-next.ensures ty) in
    let a = same one c.in_ok-a.ensures.code in
    let two = ap of_value (two_is (program_in c.args.names.now) (scope_in c.args.scope.now) (expr_of c.args.c.now) (expr_of c.args.left.now) (expr_of c.args.right.now) c.args.from c.args.into c.args.free (lists_of c.args.lists.now) c.in_ok-t.ensures c.in_ok-next.ensures ty a c.in_ok-other.ensures) in
    let chosen = chosen_there (program_in c.args.names.now) (scope_in c.args.scope.now) (expr_of c.args.c.now) (expr_of c.args.left.now) (expr_of c.args.right.now) c.args.from c.args.into c.args.free (lists_of c.args.lists.now) c.in_ok-t.ensures c.in_ok-next.ensures ty a c.in_ok-other.ensures (same two c.in_ok-b.ensures.code) c.requires.test c.requires.first c.requires.second c.as_slice.ensures.value c.in_ok-b.ensures.register in
    same (ap of_value chosen) (c.put_chosen.ensures (lists_of c.lower_into-2.new.lists))

pub lower_conditional-returns-in_err-a : goal.lower_conditional-returns-in_err-a
lower_conditional-returns-in_err-a g t c =
    let ty = c.common_type-ty.ensures ∙ (λ j. common (c.value_type-own.ensures j) (c.value_type-another.ensures j)) in
    let one = ap of_value (one_is (program_in c.args.names.now) (scope_in c.args.scope.now) (expr_of c.args.c.now) (expr_of c.args.left.now) (expr_of c.args.right.now) c.args.from c.args.into c.args.free (lists_of c.args.lists.now) c.in_ok-t.ensures c.in_ok-next.ensures ty) in
    stops (same one c.lower_into.ensures.code) c.in_err-a.was c.from_residual-in_err-a.ensures (second_within (program_in c.args.names.now) (scope_in c.args.scope.now) (expr_of c.args.c.now) (expr_of c.args.left.now) (expr_of c.args.right.now) c.args.from c.args.into c.args.free (lists_of c.args.lists.now))

pub lower_conditional-returns-in_err-b : goal.lower_conditional-returns-in_err-b
lower_conditional-returns-in_err-b g t c =
    let ty = c.common_type-ty.ensures ∙ (λ j. common (c.value_type-own.ensures j) (c.value_type-another.ensures j)) in
    let one = ap of_value (one_is (program_in c.args.names.now) (scope_in c.args.scope.now) (expr_of c.args.c.now) (expr_of c.args.left.now) (expr_of c.args.right.now) c.args.from c.args.into c.args.free (lists_of c.args.lists.now) c.in_ok-t.ensures c.in_ok-next.ensures ty) in
    let a = same one c.in_ok-a.ensures.code in
    let two = ap of_value (two_is (program_in c.args.names.now) (scope_in c.args.scope.now) (expr_of c.args.c.now) (expr_of c.args.left.now) (expr_of c.args.right.now) c.args.from c.args.into c.args.free (lists_of c.args.lists.now) c.in_ok-t.ensures c.in_ok-next.ensures ty a c.in_ok-other.ensures) in
    stops (same two c.lower_into-2.ensures.code) c.in_err-b.was c.from_residual-in_err-b.ensures (no_less _)

pub lower_node-lower_as-requires : goal.lower_node-lower_as-requires
lower_node-lower_as-requires g t c κs within =
    let size = simp the_lemmas at (ap (the_size g.row.A g.A.Allocator g.A.laws) c.in-Cast.is) in
    let here = ap (the_size g.row.A g.A.Allocator g.A.laws) c.get-in-Cast.ensures in
    (omega (arith, size, here, c.decreases), within)

pub lower_as-returns-in-Some : goal.lower_as-returns-in-Some
lower_as-returns-in-Some g t c =
    same (ap of_value (sym (due_constant (program_in c.args.names.now) (scope_in c.args.scope.now) c.args.ty (expr_of c.args.e.now) c.in-Some.value c.in-Some.own c.args.from c.args.into c.args.free (lists_of c.args.lists.now) (sym c.in-Some.ensures))))
    (same (ap (λ w. of_value (constant w c.args.ty c.args.from c.args.into (lists_of c.args.lists.now))) c.constant_in.ensures) c.put_constant.ensures)

pub lower_as-returns-in_ok-a-in-None : goal.lower_as-returns-in_ok-a-in-None
lower_as-returns-in_ok-a-in-None g t c = due_there (program_in c.args.names.now) (scope_in c.args.scope.now) c.args.ty (expr_of c.args.e.now) c.args.from c.args.into c.args.free (lists_of c.args.lists.now) (sym c.constant_of.ensures ∙ c.in-None.is) c.in_ok-a-in-None.ensures c.put_converted.ensures

pub lower_as-returns-in_err-a-in-None : goal.lower_as-returns-in_err-a-in-None
lower_as-returns-in_err-a-in-None g t c =
    stops c.lower_expr.ensures c.in_err-a-in-None.was c.from_residual.ensures (due_within (program_in c.args.names.now) (scope_in c.args.scope.now) c.args.ty (expr_of c.args.e.now) c.args.from c.args.into c.args.free (lists_of c.args.lists.now) (sym c.constant_of.ensures ∙ c.in-None.is))

pub lower_condition-returns-then-converts : goal.lower_condition-returns-then-converts
lower_condition-returns-then-converts g t c =
    let own = c.value_type-own.ensures ∙ ap (λ x. emitted_type (program_in c.args.names.now) (scope_in c.args.scope.now) (expr_of x)) c.get-in-Cast.ensures in
    let some = ap (λ s. is_some (converting s c.in-Cast.ty)) (sym own) ∙ sym c.converts.ensures ∙ c.if-converts.true in
    value_test_there (program_in c.args.names.now) (scope_in c.args.scope.now) c.args.from c.args.free (lists_of c.args.lists.now) (cast_is c.in-Cast.is refl) (cast_by_value (program_in c.args.names.now) (scope_in c.args.scope.now) (expr_of c.in-Cast.a) c.in-Cast.ty c.in-Cast.field-2 c.args.from c.args.free (lists_of c.args.lists.now) some) c.lower_value.ensures

pub lower_condition-returns-else-converts : goal.lower_condition-returns-else-converts
lower_condition-returns-else-converts g t c =
    let own = c.value_type-own.ensures ∙ ap (λ x. emitted_type (program_in c.args.names.now) (scope_in c.args.scope.now) (expr_of x)) (c.get-in-Cast.ensures ∙ sym c.get-else-converts.ensures) in
    let none = ap (λ s. is_some (converting s c.in-Cast.ty)) (sym own) ∙ sym c.converts.ensures ∙ c.if-converts.false in
    cast_test_there (program_in c.args.names.now) (scope_in c.args.scope.now) c.args.from c.args.free (lists_of c.args.lists.now) (cast_is c.in-Cast.is c.get-else-converts.ensures) none c.lower_condition-else-converts.ensures

pub lower_all-each-preserved : goal.lower_all-each-preserved
lower_all-each-preserved g t c =
    let here = ap (λ n. of_value (argument_value (program_in c.args.names.now) (scope_in c.args.scope.now) (drop n (types_of (map parameter_of c.args.parameters.now))) (expr_of c.one-item.result) c.each.to c.each.later (lists_of c.each.lists))) c.each.invariant.0 in
    (ap (λ n. n + 1) c.each.invariant.0, next_value (program_in c.args.names.now) (scope_in c.args.scope.now) (types_of (map parameter_of c.args.parameters.now)) c.args.all.now c.each.one-index c.each.to c.each.later (lists_of c.each.lists) c.each.code.items c.each.registers.items _ c.one-item.result c.each-test.true c.one-item.is c.each.invariant.1 _ _ _ c.in_ok-location.location _ (same here c.in_ok-location.ensures) c.in_ok-add_operand.ensures c.above-later.ensures)

pub lower_all-returns-in_err-location-clause-code : goal.lower_all-returns-in_err-location-clause-code
lower_all-returns-in_err-location-clause-code g t c =
    let here = ap (λ n. of_value (argument_value (program_in c.args.names.now) (scope_in c.args.scope.now) (drop n (types_of (map parameter_of c.args.parameters.now))) (expr_of c.one-item.result) c.each.to c.each.later (lists_of c.each.lists))) c.each.invariant.0 in
    stops (same here c.lower_argument.ensures) c.in_err-location.was c.from_residual.ensures (first_within (program_in c.args.names.now) (scope_in c.args.scope.now) (types_of (map parameter_of c.args.parameters.now)) c.args.all.now c.each.one-index c.each.to c.each.later (lists_of c.each.lists) c.each.code.items c.each.registers.items _ c.one-item.result c.each-test.true c.one-item.is c.each.invariant.1)

pub lower_all-returns-clause-code : goal.lower_all-returns-clause-code
lower_all-returns-clause-code g t c =
    let all = no_more_values (program_in c.args.names.now) (scope_in c.args.scope.now) (types_of (map parameter_of c.args.parameters.now)) c.args.all.now c.each.one-index c.each.to c.each.later (lists_of c.each.lists) c.each.code.items c.each.registers.items _ c.each-test.false c.each.invariant.1 in
    record { code = ap (λ (w : AllEmitted). w.code) all; lists = ap (λ (w : AllEmitted). w.lists) all; end = ap (λ (w : AllEmitted). w.to) all; fails = tt }

pub lower_all-returns-clause-registers : goal.lower_all-returns-clause-registers
lower_all-returns-clause-registers g t c = ap (λ (w : AllEmitted). w.registers) (no_more_values (program_in c.args.names.now) (scope_in c.args.scope.now) (types_of (map parameter_of c.args.parameters.now)) c.args.all.now c.each.one-index c.each.to c.each.later (lists_of c.each.lists) c.each.code.items c.each.registers.items _ c.each-test.false c.each.invariant.1)

pub lower_argument-returns-then-number-parameters : goal.lower_argument-returns-then-number-parameters
lower_argument-returns-then-number-parameters g t c =
    let there = type_there c.args.parameters.now c.args.number c.index-parameters-number.result c.if-number-parameters.true c.index-parameters-number.is in
    let own = ap (λ x. x.ty) c.index-parameters-number.is in
    same (ap (λ u. of_value (as_type (program_in c.args.names.now) (scope_in c.args.scope.now) u (expr_of c.args.e.now) c.args.from c.args.free c.args.free (lists_of c.args.lists.now))) (sym own) ∙ ap (λ us. of_value (argument_value (program_in c.args.names.now) (scope_in c.args.scope.now) us (expr_of c.args.e.now) c.args.from c.args.free (lists_of c.args.lists.now))) (sym there)) c.lower_as.ensures

pub lower_argument-returns-else-number-parameters : goal.lower_argument-returns-else-number-parameters
lower_argument-returns-else-number-parameters g t c =
    let there = no_type c.args.parameters.now c.args.number (omega (arith, c.if-number-parameters.false)) in
    same (ap (λ us. of_value (argument_value (program_in c.args.names.now) (scope_in c.args.scope.now) us (expr_of c.args.e.now) c.args.from c.args.free (lists_of c.args.lists.now))) (sym there)) c.lower_expr.ensures

pub lower_as-lower_expr-requires : goal.lower_as-lower_expr-requires
lower_as-lower_expr-requires g t c κs within = (omega (arith, c.decreases), within)

pub lower_operand-lower_as-requires : goal.lower_operand-lower_as-requires
lower_operand-lower_as-requires g t c κs within = (omega (arith, c.decreases), within)

pub lower_into-lower_as-requires : goal.lower_into-lower_as-requires
lower_into-lower_as-requires g t c κs within = (omega (arith, c.decreases), within)

pub lower_argument-lower_as-requires : goal.lower_argument-lower_as-requires
lower_argument-lower_as-requires g t c κs within = (omega (arith, c.decreases), within)

pub lower_argument-lower_expr-requires : goal.lower_argument-lower_expr-requires
lower_argument-lower_expr-requires g t c κs within = (omega (arith, c.decreases), within)

pub lower_condition-lower_value-requires : goal.lower_condition-lower_value-requires
lower_condition-lower_value-requires g t c κs within = (omega (arith, c.decreases), within)

pub lower_condition-lower_condition-requires-else-converts : goal.lower_condition-lower_condition-requires-else-converts
lower_condition-lower_condition-requires-else-converts g t c κs within =
    let size = simp the_lemmas at (ap (the_size g.row.A g.A.Allocator g.A.laws) c.in-Cast.is) in
    let here = ap (the_size g.row.A g.A.Allocator g.A.laws) c.get-else-converts.ensures in
    (omega (arith, size, here, c.decreases), within)

pub lower_all-lower_argument-requires : goal.lower_all-lower_argument-requires
lower_all-lower_argument-requires g t c κs within =
    let size = the_size g.row.A g.A.Allocator g.A.laws in
    let below = at_most size c.args.all.now c.each.one-index c.one-item.result c.each-test.true in
    let here = ap size c.one-item.is in
    (omega (arith, below, here, c.decreases), within)

pub lower_node-returns-in_ok-b-in-Binary : goal.lower_node-returns-in_ok-b-in-Binary
lower_node-returns-in_ok-b-in-Binary g t c =
    let et = c.value_type-other.ensures ∙ ap (λ x. emitted_type (program_in c.args.names.now) (scope_in c.args.scope.now) (expr_of x)) (c.get-in-Binary.ensures ∙ sym c.get-in-Binary-3.ensures) in
    let a = left_there (program_in c.args.names.now) (scope_in c.args.scope.now) c.in-Binary.op (expr_of c.get-in-Binary-2.result.now) (expr_of c.get-in-Binary-3.result.now) c.in-Binary.field-3 c.args.from c.args.into c.args.free (lists_of c.args.lists.now) et c.in_ok-a-in-Binary.ensures in
    let b = right_there (program_in c.args.names.now) (scope_in c.args.scope.now) c.in-Binary.op (expr_of c.get-in-Binary-2.result.now) (expr_of c.get-in-Binary-3.result.now) c.in-Binary.field-3 c.args.from c.args.into c.args.free (lists_of c.args.lists.now) et a c.above-later.ensures c.operand_type-due.ensures c.in_ok-b-in-Binary.ensures in
    value_there (program_in c.args.names.now) (scope_in c.args.scope.now) c.args.from c.args.into c.args.free (lists_of c.args.lists.now) (binary_is c.in-Binary.is c.get-in-Binary-2.ensures c.get-in-Binary-3.ensures)
    (whole_there (program_in c.args.names.now) (scope_in c.args.scope.now) c.in-Binary.op (expr_of c.get-in-Binary-2.result.now) (expr_of c.get-in-Binary-3.result.now) c.in-Binary.field-3 c.args.from c.args.into c.args.free (lists_of c.args.lists.now) et a c.above-later.ensures c.operand_type-due.ensures b c.put_both.ensures)

pub lower_node-returns-in_err-b-in-Binary : goal.lower_node-returns-in_err-b-in-Binary
lower_node-returns-in_err-b-in-Binary g t c =
    let et = c.value_type-other.ensures ∙ ap (λ x. emitted_type (program_in c.args.names.now) (scope_in c.args.scope.now) (expr_of x)) (c.get-in-Binary.ensures ∙ sym c.get-in-Binary-3.ensures) in
    let a = left_there (program_in c.args.names.now) (scope_in c.args.scope.now) c.in-Binary.op (expr_of c.get-in-Binary-2.result.now) (expr_of c.get-in-Binary-3.result.now) c.in-Binary.field-3 c.args.from c.args.into c.args.free (lists_of c.args.lists.now) et c.in_ok-a-in-Binary.ensures in
    value_there (program_in c.args.names.now) (scope_in c.args.scope.now) c.args.from c.args.into c.args.free (lists_of c.args.lists.now) (binary_is c.in-Binary.is c.get-in-Binary-2.ensures c.get-in-Binary-3.ensures)
    (stops (right_there (program_in c.args.names.now) (scope_in c.args.scope.now) c.in-Binary.op (expr_of c.get-in-Binary-2.result.now) (expr_of c.get-in-Binary-3.result.now) c.in-Binary.field-3 c.args.from c.args.into c.args.free (lists_of c.args.lists.now) et a c.above-later.ensures c.operand_type-due.ensures c.lower_operand.ensures) c.in_err-b-in-Binary.was c.from_residual-in_err-b-in-Binary.ensures (right_within (program_in c.args.names.now) (scope_in c.args.scope.now) c.in-Binary.op (expr_of c.get-in-Binary-2.result.now) (expr_of c.get-in-Binary-3.result.now) c.in-Binary.field-3 c.args.from c.args.into c.args.free (lists_of c.args.lists.now)))

pub lower_node-returns-in_err-a-in-Binary : goal.lower_node-returns-in_err-a-in-Binary
lower_node-returns-in_err-a-in-Binary g t c =
    value_there (program_in c.args.names.now) (scope_in c.args.scope.now) c.args.from c.args.into c.args.free (lists_of c.args.lists.now) (binary_is c.in-Binary.is c.get-in-Binary-2.ensures c.get-in-Binary.ensures)
    (stops (left_there (program_in c.args.names.now) (scope_in c.args.scope.now) c.in-Binary.op (expr_of c.get-in-Binary-2.result.now) (expr_of c.get-in-Binary.result.now) c.in-Binary.field-3 c.args.from c.args.into c.args.free (lists_of c.args.lists.now) c.value_type-other.ensures c.lower_left.ensures) c.in_err-a-in-Binary.was c.from_residual-in_err-a-in-Binary.ensures (left_within (program_in c.args.names.now) (scope_in c.args.scope.now) c.in-Binary.op (expr_of c.get-in-Binary-2.result.now) (expr_of c.get-in-Binary.result.now) c.in-Binary.field-3 c.args.from c.args.into c.args.free (lists_of c.args.lists.now)))

pub lower_node-lower_left-requires : goal.lower_node-lower_left-requires
lower_node-lower_left-requires g t c κs within =
    let size = simp the_lemmas at (ap (the_size g.row.A g.A.Allocator g.A.laws) c.in-Binary.is) in
    let here = ap (the_size g.row.A g.A.Allocator g.A.laws) c.get-in-Binary-2.ensures in
    (omega (arith, size, here, c.decreases), within)

pub lower_node-lower_operand-requires : goal.lower_node-lower_operand-requires
lower_node-lower_operand-requires g t c κs within =
    let size = simp the_lemmas at (ap (the_size g.row.A g.A.Allocator g.A.laws) c.in-Binary.is) in
    let here = ap (the_size g.row.A g.A.Allocator g.A.laws) c.get-in-Binary-3.ensures in
    (omega (arith, size, here, c.decreases), within)

pub lower_left-returns-in-Some : goal.lower_left-returns-in-Some
lower_left-returns-in-Some g t c =
    left_constant (program_in c.args.names.now) (scope_in c.args.scope.now) c.args.op c.in-Some.own c.args.other (expr_of c.args.e.now) c.in-Some.value c.args.from c.args.free (lists_of c.args.lists.now) (sym c.in-Some.ensures) c.operand_type-due.ensures c.constant_in.ensures c.put_constant.ensures

pub lower_left-returns-in_ok-a-in-None : goal.lower_left-returns-in_ok-a-in-None
lower_left-returns-in_ok-a-in-None g t c =
    left_converted (program_in c.args.names.now) (scope_in c.args.scope.now) c.args.op c.args.other (expr_of c.args.e.now) c.args.from c.args.free (lists_of c.args.lists.now) (sym c.constant_of.ensures ∙ c.in-None.is) c.in_ok-a-in-None.ensures c.operand_type-ty.ensures c.put_converted.ensures

pub lower_left-returns-in_err-a-in-None : goal.lower_left-returns-in_err-a-in-None
lower_left-returns-in_err-a-in-None g t c =
    let due = due_type c.args.op (emitted_type (program_in c.args.names.now) (scope_in c.args.scope.now) (expr_of c.args.e.now)) c.args.other in
    stops c.lower_expr.ensures c.in_err-a-in-None.was c.from_residual.ensures (due_within (program_in c.args.names.now) (scope_in c.args.scope.now) due (expr_of c.args.e.now) c.args.from c.args.free c.args.free (lists_of c.args.lists.now) (sym c.constant_of.ensures ∙ c.in-None.is))

pub lower_left-lower_expr-requires : goal.lower_left-lower_expr-requires
lower_left-lower_expr-requires g t c κs within = (omega (arith, c.decreases), within)
