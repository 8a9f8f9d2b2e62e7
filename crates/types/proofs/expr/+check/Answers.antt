use Rattle.std.proofs.Common.{ap, sym, ◌∙◌, arith}
use denote.Param.Weighed.{most, at_most}
use Rattle.syntax.specs.Tree as Tree
use Rattle.syntax.specs.Views.{name_of, expr_of, exprs_of}
use Rattle.syntax.specs.declared.tree.Expr.{the_lemmas}
use Rattle.syntax.proofs.tree.Expr.TheLaws.{the_size}
use Rattle.syntax.specs.Typing.{first_unmet, IsTyped, IsNumber, GivesNumber}
use Rattle.types.specs.inner.Known.{known_in}
use Rattle.types.proofs.Loops.{numbers_more, numbers_all, call_parts, typed_call, typed_binary, typed_logical, typed_conditional}
use Rattle.types.proofs.Steps.{skip, stop, first_of_two}
use Rattle.types.proofs.expr.+check.Goals as goal

pub check_expr-check_element-requires : goal.check_expr-check_element-requires
check_expr-check_element-requires g t c κs within =
    let size = simp the_lemmas at (ap (the_size g.row.A g.A.Allocator g.A.laws) c.in-Element.is) in
    let here = ap (the_size g.row.A g.A.Allocator g.A.laws) c.get.ensures in
    (omega (arith, size, here, c.decreases), within)

pub check_expr-check_expr-requires : goal.check_expr-check_expr-requires
check_expr-check_expr-requires g t c κs within =
    let size = simp the_lemmas at (ap (the_size g.row.A g.A.Allocator g.A.laws) c.in-Parenthesized.is) in
    let here = ap (the_size g.row.A g.A.Allocator g.A.laws) c.get-in-Parenthesized.ensures in
    (omega (arith, size, here, c.decreases), within)

pub check_expr-check_number-requires : goal.check_expr-check_number-requires
check_expr-check_number-requires g t c κs within =
    let size = simp the_lemmas at (ap (the_size g.row.A g.A.Allocator g.A.laws) c.in-Cast.is) in
    let here = ap (the_size g.row.A g.A.Allocator g.A.laws) c.get-in-Cast.ensures in
    (omega (arith, size, here, c.decreases), within)

pub check_expr-check_number-requires-in-Unary : goal.check_expr-check_number-requires-in-Unary
check_expr-check_number-requires-in-Unary g t c κs within =
    let size = simp the_lemmas at (ap (the_size g.row.A g.A.Allocator g.A.laws) c.in-Unary.is) in
    let here = ap (the_size g.row.A g.A.Allocator g.A.laws) c.get-in-Unary.ensures in
    (omega (arith, size, here, c.decreases), within)

pub check_expr-check_number-requires-in-Binary : goal.check_expr-check_number-requires-in-Binary
check_expr-check_number-requires-in-Binary g t c κs within =
    let size = simp the_lemmas at (ap (the_size g.row.A g.A.Allocator g.A.laws) c.in-Binary.is) in
    let here = ap (the_size g.row.A g.A.Allocator g.A.laws) c.get-in-Binary.ensures in
    (omega (arith, size, here, c.decreases), within)

pub check_expr-check_number-requires-in-Binary-2 : goal.check_expr-check_number-requires-in-Binary-2
check_expr-check_number-requires-in-Binary-2 g t c κs within =
    let size = simp the_lemmas at (ap (the_size g.row.A g.A.Allocator g.A.laws) c.in-Binary.is) in
    let here = ap (the_size g.row.A g.A.Allocator g.A.laws) c.get-in-Binary-2.ensures in
    (omega (arith, size, here, c.decreases), within)

pub check_expr-check_number-requires-in-Logical : goal.check_expr-check_number-requires-in-Logical
check_expr-check_number-requires-in-Logical g t c κs within =
    let size = simp the_lemmas at (ap (the_size g.row.A g.A.Allocator g.A.laws) c.in-Logical.is) in
    let here = ap (the_size g.row.A g.A.Allocator g.A.laws) c.get-in-Logical.ensures in
    (omega (arith, size, here, c.decreases), within)

pub check_expr-check_number-requires-in-Logical-2 : goal.check_expr-check_number-requires-in-Logical-2
check_expr-check_number-requires-in-Logical-2 g t c κs within =
    let size = simp the_lemmas at (ap (the_size g.row.A g.A.Allocator g.A.laws) c.in-Logical.is) in
    let here = ap (the_size g.row.A g.A.Allocator g.A.laws) c.get-in-Logical-2.ensures in
    (omega (arith, size, here, c.decreases), within)

pub check_expr-check_number-requires-in-Conditional : goal.check_expr-check_number-requires-in-Conditional
check_expr-check_number-requires-in-Conditional g t c κs within =
    let size = simp the_lemmas at (ap (the_size g.row.A g.A.Allocator g.A.laws) c.in-Conditional.is) in
    let here = ap (the_size g.row.A g.A.Allocator g.A.laws) c.get-in-Conditional.ensures in
    (omega (arith, size, here, c.decreases), within)

pub check_expr-check_number-requires-in-Conditional-2 : goal.check_expr-check_number-requires-in-Conditional-2
check_expr-check_number-requires-in-Conditional-2 g t c κs within =
    let size = simp the_lemmas at (ap (the_size g.row.A g.A.Allocator g.A.laws) c.in-Conditional.is) in
    let here = ap (the_size g.row.A g.A.Allocator g.A.laws) c.get-in-Conditional-2.ensures in
    (omega (arith, size, here, c.decreases), within)

pub check_expr-check_number-requires-in-Conditional-3 : goal.check_expr-check_number-requires-in-Conditional-3
check_expr-check_number-requires-in-Conditional-3 g t c κs within =
    let size = simp the_lemmas at (ap (the_size g.row.A g.A.Allocator g.A.laws) c.in-Conditional.is) in
    let here = ap (the_size g.row.A g.A.Allocator g.A.laws) c.get-in-Conditional-3.ensures in
    (omega (arith, size, here, c.decreases), within)

pub check_expr-check_number-requires-in-InTransaction : goal.check_expr-check_number-requires-in-InTransaction
check_expr-check_number-requires-in-InTransaction g t c κs within =
    let size = simp the_lemmas at (ap (the_size g.row.A g.A.Allocator g.A.laws) c.in-InTransaction.is) in
    let here = ap (the_size g.row.A g.A.Allocator g.A.laws) c.get-in-InTransaction.ensures in
    (omega (arith, size, here, c.decreases), within)

pub check_expr-check_call-requires : goal.check_expr-check_call-requires
check_expr-check_call-requires g t c κs within =
    let size = simp the_lemmas at (ap (the_size g.row.A g.A.Allocator g.A.laws) c.in-Call.is) in
    let here = ap (most (the_size g.row.A g.A.Allocator g.A.laws)) c.as_slice.ensures in
    (omega (arith, size, here, c.decreases), within)

pub check_expr-returns-in-Call : goal.check_expr-returns-in-Call
check_expr-returns-in-Call g t c =
    c.check_call.ensures ∙ ap (λ es. first_unmet (IsTyped (known_in c.args.names.now) (Tree.Call (name_of c.in-Call.f) (exprs_of es) c.in-Call.span))) c.as_slice.ensures ∙ sym (typed_call (known_in c.args.names.now) c.args.e.now c.in-Call.f c.in-Call.args c.in-Call.span c.in-Call.is)

pub check_expr-returns-in_err-check_number-in-Binary : goal.check_expr-returns-in_err-check_number-in-Binary
check_expr-returns-in_err-check_number-in-Binary g t c =
    let is = typed_binary (known_in c.args.names.now) c.args.e.now c.in-Binary.field-0 c.in-Binary.a c.in-Binary.b c.in-Binary.field-3 c.in-Binary.is in
    stop c.check_number-in-Binary.result _ c.in_err-check_number-in-Binary.field-0.0 _ _ _ is (c.check_number-in-Binary.ensures ∙ ap (λ x. first_unmet (IsNumber (known_in c.args.names.now) (expr_of x))) c.get-in-Binary.ensures) c.in_err-check_number-in-Binary.was c.from_residual.ensures

pub check_expr-returns-in_ok-check_number-in-Binary : goal.check_expr-returns-in_ok-check_number-in-Binary
check_expr-returns-in_ok-check_number-in-Binary g t c =
    let is = typed_binary (known_in c.args.names.now) c.args.e.now c.in-Binary.field-0 c.in-Binary.a c.in-Binary.b c.in-Binary.field-3 c.in-Binary.is in
    (c.check_number-in-Binary-2.ensures ∙ ap (λ x. first_unmet (IsNumber (known_in c.args.names.now) (expr_of x))) c.get-in-Binary-2.ensures) ∙ sym (skip c.check_number-in-Binary.result _ _ _ _ is (c.check_number-in-Binary.ensures ∙ ap (λ x. first_unmet (IsNumber (known_in c.args.names.now) (expr_of x))) c.get-in-Binary.ensures) c.in_ok-check_number-in-Binary.was)

pub check_expr-returns-in_err-check_number-in-Logical : goal.check_expr-returns-in_err-check_number-in-Logical
check_expr-returns-in_err-check_number-in-Logical g t c =
    let is = typed_logical (known_in c.args.names.now) c.args.e.now c.in-Logical.field-0 c.in-Logical.a c.in-Logical.b c.in-Logical.field-3 c.in-Logical.is in
    stop c.check_number-in-Logical.result _ c.in_err-check_number-in-Logical.field-0.0 _ _ _ is (c.check_number-in-Logical.ensures ∙ ap (λ x. first_unmet (IsNumber (known_in c.args.names.now) (expr_of x))) c.get-in-Logical.ensures) c.in_err-check_number-in-Logical.was c.from_residual-in_err-check_number-in-Logical.ensures

pub check_expr-returns-in_ok-check_number-in-Logical : goal.check_expr-returns-in_ok-check_number-in-Logical
check_expr-returns-in_ok-check_number-in-Logical g t c =
    let is = typed_logical (known_in c.args.names.now) c.args.e.now c.in-Logical.field-0 c.in-Logical.a c.in-Logical.b c.in-Logical.field-3 c.in-Logical.is in
    (c.check_number-in-Logical-2.ensures ∙ ap (λ x. first_unmet (IsNumber (known_in c.args.names.now) (expr_of x))) c.get-in-Logical-2.ensures) ∙ sym (skip c.check_number-in-Logical.result _ _ _ _ is (c.check_number-in-Logical.ensures ∙ ap (λ x. first_unmet (IsNumber (known_in c.args.names.now) (expr_of x))) c.get-in-Logical.ensures) c.in_ok-check_number-in-Logical.was)

pub check_expr-returns-in_err-check_number-in-Conditional : goal.check_expr-returns-in_err-check_number-in-Conditional
check_expr-returns-in_err-check_number-in-Conditional g t c =
    let is = typed_conditional (known_in c.args.names.now) c.args.e.now c.in-Conditional.c c.in-Conditional.a c.in-Conditional.b c.in-Conditional.field-3 c.in-Conditional.is in
    stop c.check_number-in-Conditional.result _ c.in_err-check_number-in-Conditional.field-0.0 _ _ _ is (c.check_number-in-Conditional.ensures ∙ ap (λ x. first_unmet (IsNumber (known_in c.args.names.now) (expr_of x))) c.get-in-Conditional.ensures) c.in_err-check_number-in-Conditional.was c.from_residual-in_err-check_number-in-Conditional.ensures

pub check_expr-returns-in_err-check_number-in-Conditional-2 : goal.check_expr-returns-in_err-check_number-in-Conditional-2
check_expr-returns-in_err-check_number-in-Conditional-2 g t c =
    let is = typed_conditional (known_in c.args.names.now) c.args.e.now c.in-Conditional.c c.in-Conditional.a c.in-Conditional.b c.in-Conditional.field-3 c.in-Conditional.is in
    stop c.check_number-in-Conditional-2.result _ c.in_err-check_number-in-Conditional-2.field-0.0 _ _ _ (skip c.check_number-in-Conditional.result _ _ _ _ is (c.check_number-in-Conditional.ensures ∙ ap (λ x. first_unmet (IsNumber (known_in c.args.names.now) (expr_of x))) c.get-in-Conditional.ensures) c.in_ok-check_number-in-Conditional.was) (c.check_number-in-Conditional-2.ensures ∙ ap (λ x. first_unmet (IsNumber (known_in c.args.names.now) (expr_of x))) c.get-in-Conditional-2.ensures) c.in_err-check_number-in-Conditional-2.was c.from_residual-in_err-check_number-in-Conditional-2.ensures

pub check_expr-returns-in_ok-check_number-in-Conditional-2 : goal.check_expr-returns-in_ok-check_number-in-Conditional-2
check_expr-returns-in_ok-check_number-in-Conditional-2 g t c =
    let is = typed_conditional (known_in c.args.names.now) c.args.e.now c.in-Conditional.c c.in-Conditional.a c.in-Conditional.b c.in-Conditional.field-3 c.in-Conditional.is in
    (c.check_number-in-Conditional-3.ensures ∙ ap (λ x. first_unmet (IsNumber (known_in c.args.names.now) (expr_of x))) c.get-in-Conditional-3.ensures) ∙ sym (skip c.check_number-in-Conditional-2.result _ _ _ _ (skip c.check_number-in-Conditional.result _ _ _ _ is (c.check_number-in-Conditional.ensures ∙ ap (λ x. first_unmet (IsNumber (known_in c.args.names.now) (expr_of x))) c.get-in-Conditional.ensures) c.in_ok-check_number-in-Conditional.was) (c.check_number-in-Conditional-2.ensures ∙ ap (λ x. first_unmet (IsNumber (known_in c.args.names.now) (expr_of x))) c.get-in-Conditional-2.ensures) c.in_ok-check_number-in-Conditional-2.was)

pub check_numbers-returns-in_err-check_number : goal.check_numbers-returns-in_err-check_number
check_numbers-returns-in_err-check_number g t c =
    let here = numbers_more (known_in c.args.names.now) c.args.all.now c.each.one-index c.one-item.result c.one-item.is c.each-test.true in
    grind (arith, here)

pub check_numbers-each-preserved : goal.check_numbers-each-preserved
check_numbers-each-preserved g t c =
    let here = numbers_more (known_in c.args.names.now) c.args.all.now c.each.one-index c.one-item.result c.one-item.is c.each-test.true in
    grind (arith, here)

pub check_call-returns-in_err-check_numbers : goal.check_call-returns-in_err-check_numbers
check_call-returns-in_err-check_numbers g t c =
    let is = call_parts (known_in c.args.names.now) (name_of c.args.f.now) (exprs_of c.args.args.now) c.args.span in
    stop c.check_numbers.result _ c.in_err-check_numbers.field-0.0 _ _ _ (skip c.check_known.result _ _ _ _ is c.check_known.ensures c.in_ok-check_known.was) c.check_numbers.ensures c.in_err-check_numbers.was c.from_residual-in_err-check_numbers.ensures

pub check_call-returns : goal.check_call-returns
check_call-returns g t c =
    let is = call_parts (known_in c.args.names.now) (name_of c.args.f.now) (exprs_of c.args.args.now) c.args.span in
    c.check_called.ensures ∙ sym (skip c.check_numbers.result _ _ _ _ (skip c.check_known.result _ _ _ _ is c.check_known.ensures c.in_ok-check_known.was) c.check_numbers.ensures c.in_ok-check_numbers.was)

pub check_call-returns-in_err-check_known : goal.check_call-returns-in_err-check_known
check_call-returns-in_err-check_known g t c =
    let is = call_parts (known_in c.args.names.now) (name_of c.args.f.now) (exprs_of c.args.args.now) c.args.span in
    stop c.check_known.result _ c.in_err-check_known.field-0.0 _ _ _ is c.check_known.ensures c.in_err-check_known.was c.from_residual.ensures

pub check_number-returns-in_err-check_expr : goal.check_number-returns-in_err-check_expr
check_number-returns-in_err-check_expr g t c =
    let is = first_of_two (IsTyped (known_in c.args.names.now) (expr_of c.args.e.now)) (GivesNumber (known_in c.args.names.now) (expr_of c.args.e.now)) in
    stop c.check_expr.result _ c.in_err-check_expr.field-0.0 _ _ _ is c.check_expr.ensures c.in_err-check_expr.was c.from_residual.ensures

pub check_number-returns : goal.check_number-returns
check_number-returns g t c =
    let is = first_of_two (IsTyped (known_in c.args.names.now) (expr_of c.args.e.now)) (GivesNumber (known_in c.args.names.now) (expr_of c.args.e.now)) in
    c.gives_number.ensures ∙ sym (skip c.check_expr.result _ _ _ _ is c.check_expr.ensures c.in_ok-check_expr.was)

pub check_numbers-check_number-requires : goal.check_numbers-check_number-requires
check_numbers-check_number-requires g t c κs within =
    let size = the_size g.row.A g.A.Allocator g.A.laws in
    let below = at_most size c.args.all.now c.each.one-index c.one-item.result c.each-test.true in
    let here = ap size c.one-item.is in
    (omega (arith, below, here, c.decreases), within)

pub check_numbers-returns : goal.check_numbers-returns
check_numbers-returns g t c =
    sym (numbers_all (known_in c.args.names.now) c.args.all.now c.each.one-index c.each-test.false) ∙ c.each.invariant
