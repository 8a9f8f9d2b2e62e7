use Rattle.std.proofs.Common.{◌≡◌, ◌∙◌, ◌+◌, ◌-◌, ◌++◌, ◌∷◌, [], None, Err, suc, refl, sym, ap, map, option_map, take, drop, length, Bool, arith}
use Rattle.std.specs.Prelude.{if◌then◌else◌, true, false}
use Rattle.syntax.specs.Numbers as numbers
use Rattle.syntax.specs.Numbers.{value_in_type, is_zero}
use Rattle.syntax.specs.Tree as tree
use Rattle.syntax.specs.Views.{declarator_of, expr_of, exprs_of, name_of, simple_of, start_of, stmt_of, stmts_of}
use Rattle.syntax.specs.Depth.{block_depth, deepest_value, expr_depth, optional_depth, optional_simple_depth, simple_depth, start_depth, stmt_depth}
use Rattle.syntax.specs.Actions as act
use Rattle.syntax.specs.Actions.{Gives, go_on}
use Rattle.syntax.specs.Meaning as meaning
use Rattle.syntax.specs.Meaning.{expr, exprs, stmt, simple, declare, in_scope, turns}
use Rattle.meaning.specs.inner.Calls.{begun_in}
use Rattle.meaning.specs.Outcomes.{memories_in}
use Rattle.meaning.specs.inner.SourceThread.{context_in, completion_of, items_in, local_in, lvalue_of, state_in}
use Rattle.program_tables.specs.Views.{program_in}
use Rattle.meaning.specs.inner.Does.{caller_in, does_expr, does_stmt, does_stmts, does_turn, do_turn, else_depth, does_body, depth_within, for_all, is_forbidden, joined_to, loop_depth, while_turn}
use Rattle.meaning.specs.inner.Word.{value_of}
use Rattle.meaning.proofs.Calling.{called}
use Rattle.meaning.proofs.Stops.{err_of, stops_as}
use Rattle.meaning.proofs.Bodies.{weight_less}
use Rattle.meaning.proofs.Deeper.{block_deep, do_deep, if_deep, transaction_deep, argument_deep, statement_deep, declarator_deep}
use Rattle.meaning.proofs.Parts.{call_is, element_is, parenthesized_is, cast_is, unary_is, binary_is, logical_is, conditional_is, in_transaction_is, declare_is, block_is, print_is, if_is, while_is, do_while_is, for_is, return_is, transaction_is}
use Rattle.meaning.proofs.Sequences.{after, halts, twice, stmts_next, stmts_left, stmts_halt, stmts_end, values_next, values_halt, values_end, values_start, declare_next, declare_halt, scoped_gives, scoped_stops, truncated, turns_spent, turns_next, turns_ended, while_stops, while_ends, while_halts, while_goes}
use Rattle.meaning.proofs.Steps.{ticks_then, spent_first, changed_gives, adjusted_gives, print_until, call_gives, call_stops, transaction_at, outermost_none, outermost_gives, outermost_stops, nested_astray, nested_gives, nested_stops, value_unbegun, value_gives, value_stops, found_none, found_first, conditional_gives, branch_gives}
use Rattle.meaning.proofs.+run.Goals as goal
use Rattle.meaning.proofs.+run.Goals.{expr::conditional-then-is_zero+in_ok-w, expr::conditional-else-is_zero+in_ok-w-2}

pub stmt::block-returns : goal.stmt::block-returns
stmt::block-returns g t c done =
    let len : c.len-outer.result ≡ length c.args.m.now.locals.items = search (arith, c.len-outer.ensures) in
    scoped_gives (does_stmts c.args.source.now c.args.frames c.args.ss.now) (state_in c.args.m.now) (state_in c.stmts.new.m) (completion_of c.in_ok-end.end) _ (c.in_ok-end.ensures tt)
    (truncated local_in c.args.m.now.locals.items c.stmts.new.m.locals.items c.truncate.new.self.items c.len-outer.result len c.truncate.ensures.items)

pub stmt::block-returns-in_err-end : goal.stmt::block-returns-in_err-end
stmt::block-returns-in_err-end g t c =
    let is : c.from_residual.result ≡ Err c.in_err-end.field-0.0 = err_of c.from_residual.result c.in_err-end.field-0.0 c.from_residual.ensures.1 in
    stops_as completion_of c.from_residual.result c.in_err-end.field-0.0 _ c.stmts.new.m is (λ d. scoped_stops (does_stmts c.args.source.now c.args.frames c.args.ss.now) (state_in c.args.m.now) (state_in c.stmts.new.m) _ (c.in_err-end.ensures d))

pub expr::conditional-returns : goal.expr::conditional-returns
expr::conditional-returns g t c at done =
    let p = program_in c.args.source.now in
    let call = caller_in c.args.source.now c.args.frames in
    let e1 = expr_of c.args.c.now in
    let e2 = expr_of c.args.a.now in
    let e3 = expr_of c.args.b.now in
    let s1 = state_in c.eval.new.m in
    let s2 = state_in c.if-is_zero.m in
    let w2 = value_of c.if-is_zero.w in
    elim c.if-is_zero.branch [
      | expr::conditional-then-is_zero+in_ok-w w ↦ conditional_gives p call e1 e2 e3 at (state_in c.args.m.now) s1 s2 (value_of c.in_ok-v.v) w2 _ (c.in_ok-v.ensures tt)
          (branch_gives (expr p call e3) (expr p call e2) (is_zero (value_of c.in_ok-v.v)) true s1 (Gives w2 s2) (sym c.is_zero.ensures ∙ w.if-is_zero.true)
          (w.in_ok-w.ensures tt ∙ ap (λ x. Gives (value_of x) (state_in w.eval-then-is_zero.new.m)) (sym w.w-is) ∙ ap (λ m. Gives w2 (state_in m)) (sym w.m-is)))
          (c.common_value.ensures done)
      | expr::conditional-else-is_zero+in_ok-w-2 w ↦ conditional_gives p call e1 e2 e3 at (state_in c.args.m.now) s1 s2 (value_of c.in_ok-v.v) w2 _ (c.in_ok-v.ensures tt)
          (branch_gives (expr p call e3) (expr p call e2) (is_zero (value_of c.in_ok-v.v)) false s1 (Gives w2 s2) (sym c.is_zero.ensures ∙ w.if-is_zero.false)
          (w.in_ok-w-2.ensures tt ∙ ap (λ x. Gives (value_of x) (state_in w.eval-else-is_zero.new.m)) (sym w.w-is) ∙ ap (λ m. Gives w2 (state_in m)) (sym w.m-is)))
          (c.common_value.ensures done)
    ]

pub simple::declare-declarators-preserved : goal.simple::declare-declarators-preserved
simple::declare-declarators-preserved g t c =
    declare_next (program_in c.args.source.now) (caller_in c.args.source.now c.args.frames) c.args.ty c.args.ds.now c.declarators.d-index c.d-item.result (state_in c.declarators.m) (state_in c.declare_one.new.m) _ (declare (program_in c.args.source.now) (caller_in c.args.source.now c.args.frames) c.args.ty (map declarator_of c.args.ds.now) (state_in c.args.m.now)) c.declarators-test.true c.d-item.is c.declarators.invariant (c.in_ok-declare_one.ensures tt)

pub simple::declare-declare_one-requires : goal.simple::declare-declare_one-requires
simple::declare-declare_one-requires g t c κs within =
    (omega (arith, declarator_deep c.args.ds.now c.declarators.d-index c.d-item.result c.declarators-test.true c.d-item.is, c.decreases), within)

pub simple::declare-returns-in_err-declare_one : goal.simple::declare-returns-in_err-declare_one
simple::declare-returns-in_err-declare_one g t c =
    let is : c.from_residual.result ≡ Err c.in_err-declare_one.field-0.0 = err_of c.from_residual.result c.in_err-declare_one.field-0.0 c.from_residual.ensures.1 in
    stops_as completion_of c.from_residual.result c.in_err-declare_one.field-0.0 _ c.declare_one.new.m is (λ d. declare_halt (program_in c.args.source.now) (caller_in c.args.source.now c.args.frames) c.args.ty c.args.ds.now c.declarators.d-index c.d-item.result (state_in c.declarators.m) (state_in c.declare_one.new.m) _ (declare (program_in c.args.source.now) (caller_in c.args.source.now c.args.frames) c.args.ty (map declarator_of c.args.ds.now) (state_in c.args.m.now)) c.declarators-test.true c.d-item.is c.declarators.invariant (c.in_err-declare_one.ensures d))

pub calls::call-returns : goal.calls::call-returns
calls::call-returns g t c at done =
    let does = caller_in c.args.source.now c.args.frames in
    let s3 = state_in c.tick.new.m in
    called (program_in c.args.source.now) does (name_of c.args.f.now) (exprs_of c.args.args.now) at (state_in c.args.m.now) (state_in c.values.new.m) s3 c.in_ok-values.values.items _ (c.in_ok-values.ensures tt) (c.in_ok-tick.ensures tt)
    (ap (λ vs. does c.args.f.now.text vs s3) (sym c.as_slice.ensures.value) ∙ ap (λ x. does x c.as_slice.result.now s3) (sym c.as_str.ensures) ∙ c.enter_function.ensures done)

pub calls::enter_function-returns : goal.calls::enter_function-returns
calls::enter_function-returns g t c done =
    let more : c.args.frames ≡ suc (c.args.frames - 1) = omega (arith, c.if-frames-eq0.false) in
    call_gives (program_in c.args.source.now) c.args.frames (c.args.frames - 1) c.args.f.now c.args.values.now (state_in c.args.m.now) (state_in c.begin.new.m) (begun_in c.in_ok-ty.field-0) (items_in c.replace-outer.new.dest) (items_in c.replace-outer.result) more (c.in_ok-ty.ensures.value tt) (ap items_in c.replace-outer.ensures.after) (ap items_in c.replace-outer.ensures.value) (state_in c.stmts.new.m) (completion_of c.in_ok-end.end) _ (c.in_ok-end.ensures tt) (c.result_of.ensures done)

pub calls::enter_function-returns-in_err-end : goal.calls::enter_function-returns-in_err-end
calls::enter_function-returns-in_err-end g t c =
    let more : c.args.frames ≡ suc (c.args.frames - 1) = omega (arith, c.if-frames-eq0.false) in
    let is : c.from_residual-in_err-end.result ≡ Err c.in_err-end.field-0.0 = err_of c.from_residual-in_err-end.result c.in_err-end.field-0.0 c.from_residual-in_err-end.ensures.1 in
    stops_as value_of c.from_residual-in_err-end.result c.in_err-end.field-0.0 _ c.stmts.new.m is (λ d. call_stops (program_in c.args.source.now) c.args.frames (c.args.frames - 1) c.args.f.now c.args.values.now (state_in c.args.m.now) (state_in c.begin.new.m) (begun_in c.in_ok-ty.field-0) (items_in c.replace-outer.new.dest) (items_in c.replace-outer.result) more (c.in_ok-ty.ensures.value tt) (ap items_in c.replace-outer.ensures.after) (ap items_in c.replace-outer.ensures.value) (state_in c.stmts.new.m) _ (c.in_err-end.ensures d))

pub calls::enter_function-stmts-requires : goal.calls::enter_function-stmts-requires
calls::enter_function-stmts-requires g t c κs within =
    let more : c.args.frames ≡ suc (c.args.frames - 1) = omega (arith, c.if-frames-eq0.false) in
    (omega (arith, weight_less (program_in c.args.source.now) c.args.frames (c.args.frames - 1) (block_depth (stmts_of c.in_ok-ty.field-0.body.now)) more c.in_ok-ty.ensures.deep), within)

pub expr::eval-returns-in-Call : goal.expr::eval-returns-in-Call
expr::eval-returns-in-Call g t c done =
    ap (λ x. expr (program_in c.args.source.now) (caller_in c.args.source.now c.args.frames) x (state_in c.args.m.now)) (call_is c.args.e.now c.in-Call.f c.in-Call.args c.as_slice.result.now c.in-Call.at c.in-Call.is c.as_slice.ensures) ∙ c.call.ensures c.in-Call.at done

pub expr::eval-returns-in-Conditional : goal.expr::eval-returns-in-Conditional
expr::eval-returns-in-Conditional g t c done =
    ap (λ x. expr (program_in c.args.source.now) (caller_in c.args.source.now c.args.frames) x (state_in c.args.m.now)) (conditional_is c.args.e.now c.in-Conditional.c c.in-Conditional.a c.in-Conditional.b c.get-in-Conditional.result.now c.get-in-Conditional-2.result.now c.get-in-Conditional-3.result.now c.in-Conditional.field-3 c.in-Conditional.is c.get-in-Conditional.ensures c.get-in-Conditional-2.ensures c.get-in-Conditional-3.ensures) ∙ c.conditional.ensures c.in-Conditional.field-3 done

pub expr::eval-returns-in-InTransaction : goal.expr::eval-returns-in-InTransaction
expr::eval-returns-in-InTransaction g t c done =
    ap (λ x. expr (program_in c.args.source.now) (caller_in c.args.source.now c.args.frames) x (state_in c.args.m.now)) (in_transaction_is c.args.e.now c.in-InTransaction.mode c.in-InTransaction.keyword c.in-InTransaction.e c.get-in-InTransaction.result.now c.in-InTransaction.field-3 c.in-InTransaction.is c.get-in-InTransaction.ensures)
    ∙ c.value_transaction.ensures done

pub expr::eval-returns-in-Logical : goal.expr::eval-returns-in-Logical
expr::eval-returns-in-Logical g t c done =
    ap (λ x. expr (program_in c.args.source.now) (caller_in c.args.source.now c.args.frames) x (state_in c.args.m.now)) (logical_is c.args.e.now c.in-Logical.op c.in-Logical.a c.in-Logical.b c.get-in-Logical.result.now c.get-in-Logical-2.result.now c.in-Logical.field-3 c.in-Logical.is c.get-in-Logical.ensures c.get-in-Logical-2.ensures) ∙ c.logical.ensures c.in-Logical.field-3 done

pub expr::eval-returns-in-Parenthesized : goal.expr::eval-returns-in-Parenthesized
expr::eval-returns-in-Parenthesized g t c done =
    ap (λ x. expr (program_in c.args.source.now) (caller_in c.args.source.now c.args.frames) x (state_in c.args.m.now)) (parenthesized_is c.args.e.now c.in-Parenthesized.e c.get-in-Parenthesized.result.now c.in-Parenthesized.field-1 c.in-Parenthesized.is c.get-in-Parenthesized.ensures)
    ∙ c.eval.ensures done

pub expr::eval-returns-in_ok-at-in-Element : goal.expr::eval-returns-in_ok-at-in-Element
expr::eval-returns-in_ok-at-in-Element g t c done =
    ap (λ x. expr (program_in c.args.source.now) (caller_in c.args.source.now c.args.frames) x (state_in c.args.m.now)) (element_is c.args.e.now c.in-Element.x c.in-Element.i c.get.result.now c.in-Element.span c.in-Element.is c.get.ensures)
    ∙ twice (expr (program_in c.args.source.now) (caller_in c.args.source.now c.args.frames) (expr_of c.get.result.now) (state_in c.args.m.now)) (meaning.element (program_in c.args.source.now) (caller_in c.args.source.now c.args.frames) c.in-Element.x.text) meaning.fetch
    ∙ after _ meaning.fetch _ (state_in c.element.new.m) (c.in_ok-at-in-Element.ensures tt) ∙ c.fetch.ensures done

pub expr::eval-returns-in_err-at-in-Element : goal.expr::eval-returns-in_err-at-in-Element
expr::eval-returns-in_err-at-in-Element g t c =
    let is : c.from_residual.result ≡ Err c.in_err-at-in-Element.field-0.0 = err_of c.from_residual.result c.in_err-at-in-Element.field-0.0 c.from_residual.ensures.1 in
    stops_as value_of c.from_residual.result c.in_err-at-in-Element.field-0.0 _ c.element.new.m is
    (λ d. ap (λ x. expr (program_in c.args.source.now) (caller_in c.args.source.now c.args.frames) x (state_in c.args.m.now)) (element_is c.args.e.now c.in-Element.x c.in-Element.i c.get.result.now c.in-Element.span c.in-Element.is c.get.ensures)
    ∙ twice (expr (program_in c.args.source.now) (caller_in c.args.source.now c.args.frames) (expr_of c.get.result.now) (state_in c.args.m.now)) (meaning.element (program_in c.args.source.now) (caller_in c.args.source.now c.args.frames) c.in-Element.x.text) meaning.fetch
    ∙ halts _ meaning.fetch _ (state_in c.element.new.m) (c.in_err-at-in-Element.ensures d))

pub expr::eval-returns-in_ok-v-in-Cast : goal.expr::eval-returns-in_ok-v-in-Cast
expr::eval-returns-in_ok-v-in-Cast g t c done =
    ap (λ x. expr (program_in c.args.source.now) (caller_in c.args.source.now c.args.frames) x (state_in c.args.m.now)) (cast_is c.args.e.now c.in-Cast.ty c.in-Cast.e c.get-in-Cast.result.now c.in-Cast.field-2 c.in-Cast.is c.get-in-Cast.ensures)
    ∙ after (expr (program_in c.args.source.now) (caller_in c.args.source.now c.args.frames) (expr_of c.get-in-Cast.result.now) (state_in c.args.m.now)) (λ v. act.pure (value_in_type c.in-Cast.ty v)) _ (state_in c.eval-in-Cast.new.m) (c.in_ok-v-in-Cast.ensures tt) ∙ ap (λ w. Gives w (state_in c.eval-in-Cast.new.m)) (sym c.convert_word.ensures)

pub expr::eval-returns-in_err-v-in-Cast : goal.expr::eval-returns-in_err-v-in-Cast
expr::eval-returns-in_err-v-in-Cast g t c =
    let is : c.from_residual-in_err-v-in-Cast.result ≡ Err c.in_err-v-in-Cast.field-0.0 = err_of c.from_residual-in_err-v-in-Cast.result c.in_err-v-in-Cast.field-0.0 c.from_residual-in_err-v-in-Cast.ensures.1 in
    stops_as value_of c.from_residual-in_err-v-in-Cast.result c.in_err-v-in-Cast.field-0.0 _ c.eval-in-Cast.new.m is
    (λ d. ap (λ x. expr (program_in c.args.source.now) (caller_in c.args.source.now c.args.frames) x (state_in c.args.m.now)) (cast_is c.args.e.now c.in-Cast.ty c.in-Cast.e c.get-in-Cast.result.now c.in-Cast.field-2 c.in-Cast.is c.get-in-Cast.ensures)
    ∙ halts (expr (program_in c.args.source.now) (caller_in c.args.source.now c.args.frames) (expr_of c.get-in-Cast.result.now) (state_in c.args.m.now)) (λ v. act.pure (value_in_type c.in-Cast.ty v)) _ (state_in c.eval-in-Cast.new.m) (c.in_err-v-in-Cast.ensures d))

pub expr::eval-returns-in_ok-v-in-Unary : goal.expr::eval-returns-in_ok-v-in-Unary
expr::eval-returns-in_ok-v-in-Unary g t c done =
    ap (λ x. expr (program_in c.args.source.now) (caller_in c.args.source.now c.args.frames) x (state_in c.args.m.now)) (unary_is c.args.e.now c.in-Unary.op c.in-Unary.e c.get-in-Unary.result.now c.in-Unary.at c.in-Unary.is c.get-in-Unary.ensures)
    ∙ after (expr (program_in c.args.source.now) (caller_in c.args.source.now c.args.frames) (expr_of c.get-in-Unary.result.now) (state_in c.args.m.now)) (λ v. act.or_trap (numbers.unary c.in-Unary.op v)) _ (state_in c.eval-in-Unary.new.m) (c.in_ok-v-in-Unary.ensures tt) ∙ c.operate_unary.ensures done

pub expr::eval-returns-in_err-v-in-Unary : goal.expr::eval-returns-in_err-v-in-Unary
expr::eval-returns-in_err-v-in-Unary g t c =
    let is : c.from_residual-in_err-v-in-Unary.result ≡ Err c.in_err-v-in-Unary.field-0.0 = err_of c.from_residual-in_err-v-in-Unary.result c.in_err-v-in-Unary.field-0.0 c.from_residual-in_err-v-in-Unary.ensures.1 in
    stops_as value_of c.from_residual-in_err-v-in-Unary.result c.in_err-v-in-Unary.field-0.0 _ c.eval-in-Unary.new.m is
    (λ d. ap (λ x. expr (program_in c.args.source.now) (caller_in c.args.source.now c.args.frames) x (state_in c.args.m.now)) (unary_is c.args.e.now c.in-Unary.op c.in-Unary.e c.get-in-Unary.result.now c.in-Unary.at c.in-Unary.is c.get-in-Unary.ensures)
    ∙ halts (expr (program_in c.args.source.now) (caller_in c.args.source.now c.args.frames) (expr_of c.get-in-Unary.result.now) (state_in c.args.m.now)) (λ v. act.or_trap (numbers.unary c.in-Unary.op v)) _ (state_in c.eval-in-Unary.new.m) (c.in_err-v-in-Unary.ensures d))

pub expr::eval-returns-in_ok-w-in-Binary : goal.expr::eval-returns-in_ok-w-in-Binary
expr::eval-returns-in_ok-w-in-Binary g t c done =
    ap (λ x. expr (program_in c.args.source.now) (caller_in c.args.source.now c.args.frames) x (state_in c.args.m.now)) (binary_is c.args.e.now c.in-Binary.op c.in-Binary.a c.in-Binary.b c.get-in-Binary.result.now c.get-in-Binary-2.result.now c.in-Binary.at c.in-Binary.is c.get-in-Binary.ensures c.get-in-Binary-2.ensures)
    ∙ after (expr (program_in c.args.source.now) (caller_in c.args.source.now c.args.frames) (expr_of c.get-in-Binary.result.now) (state_in c.args.m.now)) (λ v s. go_on (expr (program_in c.args.source.now) (caller_in c.args.source.now c.args.frames) (expr_of c.get-in-Binary-2.result.now) s) (λ w. act.or_trap (numbers.binary c.in-Binary.op v w))) _ (state_in c.eval-in-Binary.new.m) (c.in_ok-v-in-Binary.ensures tt)
    ∙ after (expr (program_in c.args.source.now) (caller_in c.args.source.now c.args.frames) (expr_of c.get-in-Binary-2.result.now) (state_in c.eval-in-Binary.new.m)) (λ w. act.or_trap (numbers.binary c.in-Binary.op (value_of c.in_ok-v-in-Binary.v) w)) _ (state_in c.eval-in-Binary-2.new.m) (c.in_ok-w-in-Binary.ensures tt) ∙ c.operate.ensures done

pub expr::eval-returns-in_err-v-in-Binary : goal.expr::eval-returns-in_err-v-in-Binary
expr::eval-returns-in_err-v-in-Binary g t c =
    let is : c.from_residual-in_err-v-in-Binary.result ≡ Err c.in_err-v-in-Binary.field-0.0 = err_of c.from_residual-in_err-v-in-Binary.result c.in_err-v-in-Binary.field-0.0 c.from_residual-in_err-v-in-Binary.ensures.1 in
    stops_as value_of c.from_residual-in_err-v-in-Binary.result c.in_err-v-in-Binary.field-0.0 _ c.eval-in-Binary.new.m is
    (λ d. ap (λ x. expr (program_in c.args.source.now) (caller_in c.args.source.now c.args.frames) x (state_in c.args.m.now)) (binary_is c.args.e.now c.in-Binary.op c.in-Binary.a c.in-Binary.b c.get-in-Binary.result.now c.in-Binary.b c.in-Binary.at c.in-Binary.is c.get-in-Binary.ensures refl)
    ∙ halts (expr (program_in c.args.source.now) (caller_in c.args.source.now c.args.frames) (expr_of c.get-in-Binary.result.now) (state_in c.args.m.now)) (λ v s. go_on (expr (program_in c.args.source.now) (caller_in c.args.source.now c.args.frames) (expr_of c.in-Binary.b) s) (λ w. act.or_trap (numbers.binary c.in-Binary.op v w))) _ (state_in c.eval-in-Binary.new.m) (c.in_err-v-in-Binary.ensures d))

pub expr::eval-returns-in_err-w-in-Binary : goal.expr::eval-returns-in_err-w-in-Binary
expr::eval-returns-in_err-w-in-Binary g t c =
    let is : c.from_residual-in_err-w-in-Binary.result ≡ Err c.in_err-w-in-Binary.field-0.0 = err_of c.from_residual-in_err-w-in-Binary.result c.in_err-w-in-Binary.field-0.0 c.from_residual-in_err-w-in-Binary.ensures.1 in
    stops_as value_of c.from_residual-in_err-w-in-Binary.result c.in_err-w-in-Binary.field-0.0 _ c.eval-in-Binary-2.new.m is
    (λ d. ap (λ x. expr (program_in c.args.source.now) (caller_in c.args.source.now c.args.frames) x (state_in c.args.m.now)) (binary_is c.args.e.now c.in-Binary.op c.in-Binary.a c.in-Binary.b c.get-in-Binary.result.now c.get-in-Binary-2.result.now c.in-Binary.at c.in-Binary.is c.get-in-Binary.ensures c.get-in-Binary-2.ensures)
    ∙ after (expr (program_in c.args.source.now) (caller_in c.args.source.now c.args.frames) (expr_of c.get-in-Binary.result.now) (state_in c.args.m.now)) (λ v s. go_on (expr (program_in c.args.source.now) (caller_in c.args.source.now c.args.frames) (expr_of c.get-in-Binary-2.result.now) s) (λ w. act.or_trap (numbers.binary c.in-Binary.op v w))) _ (state_in c.eval-in-Binary.new.m) (c.in_ok-v-in-Binary.ensures tt)
    ∙ halts (expr (program_in c.args.source.now) (caller_in c.args.source.now c.args.frames) (expr_of c.get-in-Binary-2.result.now) (state_in c.eval-in-Binary.new.m)) (λ w. act.or_trap (numbers.binary c.in-Binary.op (value_of c.in_ok-v-in-Binary.v) w)) _ (state_in c.eval-in-Binary-2.new.m) (c.in_err-w-in-Binary.ensures d))

pub loops::for_scoped-returns : goal.loops::for_scoped-returns
loops::for_scoped-returns g t c done =
    let len : c.len-outer.result ≡ length c.args.m.now.locals.items = search (arith, c.len-outer.ensures) in
    scoped_gives (for_all (program_in c.args.source.now) (caller_in c.args.source.now c.args.frames) (start_of c.args.head.now.start) (option_map expr_of c.args.head.now.condition) (option_map simple_of c.args.head.now.step) (stmt_of c.args.a.now)) (state_in c.args.m.now) (state_in c.for_run.new.m) (completion_of c.in_ok-end.end) _ (c.in_ok-end.ensures tt)
    (truncated local_in c.args.m.now.locals.items c.for_run.new.m.locals.items c.truncate.new.self.items c.len-outer.result len c.truncate.ensures.items)

pub transactions::nested_transaction-returns : goal.transactions::nested_transaction-returns
transactions::nested_transaction-returns g t c done =
    nested_gives c.args.outer c.args.kind c.mode_of-mode.result c.args.found.items c.in-Ok-copy_memory.memory.items (does_body c.args.source.now c.args.frames c.args.body.now) (record (state_in c.args.m.now) { context = act.Inside c.args.outer c.args.found.items }) (state_in c.run_body.new.m) c.mode_of-mode.ensures (sym c.is_forbidden.ensures ∙ c.if-is_forbidden.false) (c.in-Ok-copy_memory.ensures ∙ c.as_slice-2.ensures.value) (items_in c.in-Ok.mine) (completion_of c.in_ok-end.end) _ (c.in-Ok.ensures ∙ ap (map local_in) c.as_slice.ensures.value) (c.in_ok-end.ensures tt) c.leave_inner.ensures

pub transactions::nested_transaction-returns-in_err-end : goal.transactions::nested_transaction-returns-in_err-end
transactions::nested_transaction-returns-in_err-end g t c =
    let is : c.from_residual.result ≡ Err c.in_err-end.field-0.0 = err_of c.from_residual.result c.in_err-end.field-0.0 c.from_residual.ensures.1 in
    stops_as completion_of c.from_residual.result c.in_err-end.field-0.0 _ c.run_body.new.m is (λ d. nested_stops c.args.outer c.args.kind c.mode_of-mode.result c.args.found.items c.in-Ok-copy_memory.memory.items (does_body c.args.source.now c.args.frames c.args.body.now) (record (state_in c.args.m.now) { context = act.Inside c.args.outer c.args.found.items }) (state_in c.run_body.new.m) c.mode_of-mode.ensures (sym c.is_forbidden.ensures ∙ c.if-is_forbidden.false) (c.in-Ok-copy_memory.ensures ∙ c.as_slice-2.ensures.value) _ (c.in_err-end.ensures d))

pub transactions::nested_transaction-returns-then-is_forbidden : goal.transactions::nested_transaction-returns-then-is_forbidden
transactions::nested_transaction-returns-then-is_forbidden g t c done =
    nested_astray c.args.outer c.args.kind c.args.found.items (does_body c.args.source.now c.args.frames c.args.body.now) _ (ap (is_forbidden c.args.outer) (sym c.mode_of-mode.ensures) ∙ sym c.is_forbidden.ensures ∙ c.if-is_forbidden.true)

pub transactions::outermost-returns-in-Err : goal.transactions::outermost-returns-in-Err
transactions::outermost-returns-in-Err g t c done =
    outermost_stops c.args.kind c.mode_of.result (memories_in c.args.founds.now) (memories_in (take (length c.args.founds.now - 1) (drop 1 c.args.founds.now))) (memories_in c.args.lefts.items) c.as_slice-in-Err.result.now c.in-Ok-copy_memory.memory.items (does_body c.args.source.now c.args.frames c.args.body.now) (record (state_in c.args.m.now) { context = act.Outside (memories_in c.args.founds.now) (memories_in c.args.lefts.items) }) (state_in c.run_body.new.m) c.mode_of.ensures (found_first c.args.founds.now c.found-item.result c.as_slice-in-Err.result.now c.in-len1-up.len_at_least c.found-item.is c.as_slice-in-Err.ensures.value) (c.in-Ok-copy_memory.ensures ∙ c.as_slice-2.ensures.value ∙ sym c.as_slice-in-Err.ensures.value) _ _ (c.in-Err.ensures (c.close_stopped.ensures.known done)) (c.close_stopped.ensures.value done c.args.kind (items_in c.args.m.now.locals))

pub transactions::outermost-returns-in-Ok-run_body : goal.transactions::outermost-returns-in-Ok-run_body
transactions::outermost-returns-in-Ok-run_body g t c done =
    outermost_gives c.args.kind c.mode_of.result (memories_in c.args.founds.now) (memories_in (take (length c.args.founds.now - 1) (drop 1 c.args.founds.now))) (memories_in c.args.lefts.items) c.as_slice-in-Ok-run_body.result.now c.in-Ok-copy_memory.memory.items (does_body c.args.source.now c.args.frames c.args.body.now) (record (state_in c.args.m.now) { context = act.Outside (memories_in c.args.founds.now) (memories_in c.args.lefts.items) }) (state_in c.run_body.new.m) c.mode_of.ensures (found_first c.args.founds.now c.found-item.result c.as_slice-in-Ok-run_body.result.now c.in-len1-up.len_at_least c.found-item.is c.as_slice-in-Ok-run_body.ensures.value) (c.in-Ok-copy_memory.ensures ∙ c.as_slice-2.ensures.value ∙ sym c.as_slice-in-Ok-run_body.ensures.value) (items_in c.in-Ok.mine) (completion_of c.in-Ok-run_body.end) _ (c.in-Ok.ensures ∙ ap (map local_in) c.as_slice.ensures.value) (c.in-Ok-run_body.ensures tt) (c.leave.ensures done)

pub transactions::outermost-returns-in_default : goal.transactions::outermost-returns-in_default
transactions::outermost-returns-in_default g t c done =
    outermost_none c.args.kind (memories_in c.args.founds.now) (memories_in c.args.lefts.items) (does_body c.args.source.now c.args.frames c.args.body.now) _ _ (found_none c.args.founds.now c.in_default.len_below) refl

pub stmt::print_output-returns : goal.stmt::print_output-returns
stmt::print_output-returns g t c at format_at begun ticked done =
    print_until (program_in c.args.source.now) (caller_in c.args.source.now c.args.frames) at format_at c.args.format.now (exprs_of c.args.args.now) begun (state_in c.args.m.now) (state_in c.may_print.new.m) (state_in c.values.new.m) c.as_slice.result.now ticked (c.in_ok-may_print.ensures tt) (c.in_ok-values.ensures tt ∙ ap (λ vs. Gives vs (state_in c.values.new.m)) (sym c.as_slice.ensures.value)) ∙ after _ (λ _. act.pure meaning.Next) _ (state_in c.print_pieces.new.m) (c.in_ok-print_pieces.ensures tt)

pub stmt::print_output-returns-in_err-print_pieces : goal.stmt::print_output-returns-in_err-print_pieces
stmt::print_output-returns-in_err-print_pieces g t c at format_at begun ticked =
    let is : c.from_residual-in_err-print_pieces.result ≡ Err c.in_err-print_pieces.field-0.0 = err_of c.from_residual-in_err-print_pieces.result c.in_err-print_pieces.field-0.0 c.from_residual-in_err-print_pieces.ensures.1 in
    stops_as completion_of c.from_residual-in_err-print_pieces.result c.in_err-print_pieces.field-0.0 _ c.print_pieces.new.m is (λ d. print_until (program_in c.args.source.now) (caller_in c.args.source.now c.args.frames) at format_at c.args.format.now (exprs_of c.args.args.now) begun (state_in c.args.m.now) (state_in c.may_print.new.m) (state_in c.values.new.m) c.as_slice.result.now ticked (c.in_ok-may_print.ensures tt) (c.in_ok-values.ensures tt ∙ ap (λ vs. Gives vs (state_in c.values.new.m)) (sym c.as_slice.ensures.value)) ∙ halts _ (λ _. act.pure meaning.Next) _ (state_in c.print_pieces.new.m) (c.in_err-print_pieces.ensures d))

pub loops::repeat-returns-in-Some : goal.loops::repeat-returns-in-Some
loops::repeat-returns-in-Some g t c done =
    turns_ended (does_turn c.args.source.now c.args.frames c.args.which.now) (c.args.m.now.ticks - c.turns.counter) (c.args.m.now.ticks - (c.turns.counter + 1)) (state_in c.turns.m) (state_in c.turn.new.m) (turns c.args.m.now.ticks (does_turn c.args.source.now c.args.frames c.args.which.now) (state_in c.args.m.now)) _ (state_in c.tick.new.m) c.turns.invariant (omega (arith, c.turns-test.true)) (c.in_ok-tick.ensures tt) _ c.in-Some.end (c.in_ok-end.ensures tt) c.in-Some.is

pub loops::repeat-returns-in_err-tick : goal.loops::repeat-returns-in_err-tick
loops::repeat-returns-in_err-tick g t c =
    let is : c.from_residual.result ≡ Err c.in_err-tick.field-0.0 = err_of c.from_residual.result c.in_err-tick.field-0.0 c.from_residual.ensures.1 in
    stops_as completion_of c.from_residual.result c.in_err-tick.field-0.0 _ c.tick.new.m is (λ d. turns_spent (does_turn c.args.source.now c.args.frames c.args.which.now) (c.args.m.now.ticks - c.turns.counter) (c.args.m.now.ticks - (c.turns.counter + 1)) (state_in c.turns.m) (state_in c.tick.new.m) (turns c.args.m.now.ticks (does_turn c.args.source.now c.args.frames c.args.which.now) (state_in c.args.m.now)) _ c.turns.invariant (omega (arith, c.turns-test.true)) (c.in_err-tick.ensures d))

pub loops::repeat-turns-preserved : goal.loops::repeat-turns-preserved
loops::repeat-turns-preserved g t c =
    turns_next (does_turn c.args.source.now c.args.frames c.args.which.now) (c.args.m.now.ticks - c.turns.counter) (c.args.m.now.ticks - (c.turns.counter + 1)) (state_in c.turns.m) (state_in c.turn.new.m) (turns c.args.m.now.ticks (does_turn c.args.source.now c.args.frames c.args.which.now) (state_in c.args.m.now)) _ (state_in c.tick.new.m) c.turns.invariant (omega (arith, c.turns-test.true)) (c.in_ok-tick.ensures tt) _ (c.in_ok-end.ensures tt) c.in_default.is

pub loops::turn_while-returns : goal.loops::turn_while-returns
loops::turn_while-returns g t c done =
    while_goes (program_in c.args.source.now) (caller_in c.args.source.now c.args.frames) (expr_of c.args.c.now) (stmt_of c.args.a.now) (state_in c.args.m.now) (state_in c.loop_test.new.m) _ (c.in_ok-end.ensures tt) (state_in c.scoped_stmt.new.m) c.in_default.is _ _ (c.in_ok-end-2.ensures tt) (c.left_by_body.ensures (act.pure None) (state_in c.scoped_stmt.new.m))

pub loops::turn_while-returns-in-Some : goal.loops::turn_while-returns-in-Some
loops::turn_while-returns-in-Some g t c done =
    while_ends (program_in c.args.source.now) (caller_in c.args.source.now c.args.frames) (expr_of c.args.c.now) (stmt_of c.args.a.now) (state_in c.args.m.now) (state_in c.loop_test.new.m) _ (c.in_ok-end.ensures tt) c.in-Some.end c.in-Some.is

pub loops::turn_while-returns-in_err-end : goal.loops::turn_while-returns-in_err-end
loops::turn_while-returns-in_err-end g t c =
    let is : c.from_residual.result ≡ Err c.in_err-end.field-0.0 = err_of c.from_residual.result c.in_err-end.field-0.0 c.from_residual.ensures.1 in
    stops_as (option_map completion_of) c.from_residual.result c.in_err-end.field-0.0 _ c.loop_test.new.m is (λ d. while_stops (program_in c.args.source.now) (caller_in c.args.source.now c.args.frames) (expr_of c.args.c.now) (stmt_of c.args.a.now) (state_in c.args.m.now) (state_in c.loop_test.new.m) _ (c.in_err-end.ensures d))

pub loops::turn_while-returns-in_err-end-2 : goal.loops::turn_while-returns-in_err-end-2
loops::turn_while-returns-in_err-end-2 g t c =
    let is : c.from_residual-in_err-end-2.result ≡ Err c.in_err-end-2.field-0.0 = err_of c.from_residual-in_err-end-2.result c.in_err-end-2.field-0.0 c.from_residual-in_err-end-2.ensures.1 in
    stops_as (option_map completion_of) c.from_residual-in_err-end-2.result c.in_err-end-2.field-0.0 _ c.scoped_stmt.new.m is (λ d. while_halts (program_in c.args.source.now) (caller_in c.args.source.now c.args.frames) (expr_of c.args.c.now) (stmt_of c.args.a.now) (state_in c.args.m.now) (state_in c.loop_test.new.m) _ (c.in_ok-end.ensures tt) (state_in c.scoped_stmt.new.m) c.in_default.is _ (c.in_err-end-2.ensures d))

pub stmt::scoped_stmt-returns : goal.stmt::scoped_stmt-returns
stmt::scoped_stmt-returns g t c done =
    let len : c.len-outer.result ≡ length c.args.m.now.locals.items = search (arith, c.len-outer.ensures) in
    scoped_gives (does_stmt c.args.source.now c.args.frames c.args.s.now) (state_in c.args.m.now) (state_in c.stmt.new.m) (completion_of c.in_ok-end.end) _ (c.in_ok-end.ensures tt)
    (truncated local_in c.args.m.now.locals.items c.stmt.new.m.locals.items c.truncate.new.self.items c.len-outer.result len c.truncate.ensures.items)

pub simple::compound_assignment-returns : goal.simple::compound_assignment-returns
simple::compound_assignment-returns g t c done =
    changed_gives (program_in c.args.source.now) (caller_in c.args.source.now c.args.frames) (expr_of c.args.to.now) (expr_of c.args.e.now) c.args.op (state_in c.args.m.now) (state_in c.target.new.m) (state_in c.fetch.new.m) (state_in c.eval.new.m) (lvalue_of c.in_ok-at.at) (value_of c.in_ok-before.before) (value_of c.in_ok-v.v) _ (c.in_ok-at.ensures tt) (c.in_ok-before.ensures tt) (c.in_ok-v.ensures tt) (c.rewrite.ensures done)

pub simple::simple-returns-in_ok-old-in-Adjust : goal.simple::simple-returns-in_ok-old-in-Adjust
simple::simple-returns-in_ok-old-in-Adjust g t c done =
    ap (λ x. simple (program_in c.args.source.now) (caller_in c.args.source.now c.args.frames) (simple_of x) (state_in c.args.m.now)) c.in-Adjust.is
    ∙ adjusted_gives (program_in c.args.source.now) (caller_in c.args.source.now c.args.frames) (expr_of c.in-Adjust.to) c.in-Adjust.by c.operator.result (value_of c.flag.result) (state_in c.args.m.now) (state_in c.target.new.m) (state_in c.fetch.new.m) (lvalue_of c.in_ok-at-in-Adjust.at) (value_of c.in_ok-old-in-Adjust.old) _ c.operator.ensures c.flag.ensures (c.in_ok-at-in-Adjust.ensures tt) (c.in_ok-old-in-Adjust.ensures tt) (c.rewrite.ensures done)

pub simple::simple-returns-in-None : goal.simple::simple-returns-in-None
simple::simple-returns-in-None g t c done =
    ap (λ x. simple (program_in c.args.source.now) (caller_in c.args.source.now c.args.frames) (simple_of x) (state_in c.args.m.now)) c.in-Assign.is ∙ ap (λ o. simple (program_in c.args.source.now) (caller_in c.args.source.now c.args.frames) (tree.Assign (expr_of c.in-Assign.to) o (expr_of c.in-Assign.e)) (state_in c.args.m.now)) c.in-None.is ∙ c.simple_assignment.ensures done

pub simple::simple-returns-in-Some : goal.simple::simple-returns-in-Some
simple::simple-returns-in-Some g t c done =
    ap (λ x. simple (program_in c.args.source.now) (caller_in c.args.source.now c.args.frames) (simple_of x) (state_in c.args.m.now)) c.in-Assign.is ∙ ap (λ o. simple (program_in c.args.source.now) (caller_in c.args.source.now c.args.frames) (tree.Assign (expr_of c.in-Assign.to) o (expr_of c.in-Assign.e)) (state_in c.args.m.now)) c.in-Some.is ∙ c.compound_assignment.ensures done

pub loops::for_start-returns-in-Declare : goal.loops::for_start-returns-in-Declare
loops::for_start-returns-in-Declare g t c done =
    ap (λ x. meaning.start_with (program_in c.args.source.now) (caller_in c.args.source.now c.args.frames) (start_of x) (state_in c.args.m.now)) c.in-Declare.is ∙ ap (λ ds. declare (program_in c.args.source.now) (caller_in c.args.source.now c.args.frames) c.in-Declare.d.ty (map declarator_of ds) (state_in c.args.m.now)) (sym c.as_slice.ensures) ∙ c.declare.ensures done

pub stmt::stmt-block-requires : goal.stmt::stmt-block-requires
stmt::stmt-block-requires g t c κs within =
    (omega (arith, block_deep c.args.s.now c.in-Block.ss c.as_slice-in-Block.result.now c.in-Block.is c.as_slice-in-Block.ensures, c.decreases), within)

pub stmt::stmt-returns-in-If : goal.stmt::stmt-returns-in-If
stmt::stmt-returns-in-If g t c done =
    ap (λ x. stmt (program_in c.args.source.now) (caller_in c.args.source.now c.args.frames) x (state_in c.args.m.now)) (if_is c.args.s.now c.in-If.c c.in-If.a c.get.result.now c.in-If.b c.in-If.is c.get.ensures) ∙ c.either.ensures (state_in c.args.m.now) (c.in_ok-tick.ensures tt) done

pub stmt::stmt-returns-in_err-tick : goal.stmt::stmt-returns-in_err-tick
stmt::stmt-returns-in_err-tick g t c =
    let is : c.from_residual.result ≡ Err c.in_err-tick.field-0.0 = err_of c.from_residual.result c.in_err-tick.field-0.0 c.from_residual.ensures.1 in
    stops_as completion_of c.from_residual.result c.in_err-tick.field-0.0 _ c.tick.new.m is (λ d. spent_first (program_in c.args.source.now) (caller_in c.args.source.now c.args.frames) (stmt_of c.args.s.now) (state_in c.args.m.now) (state_in c.tick.new.m) _ (c.in_err-tick.ensures d))

pub stmt::stmt-returns-in-Print : goal.stmt::stmt-returns-in-Print
stmt::stmt-returns-in-Print g t c done =
    ap (λ x. stmt (program_in c.args.source.now) (caller_in c.args.source.now c.args.frames) x (state_in c.args.m.now)) (print_is c.args.s.now c.in-Print.field-0 c.in-Print.format c.as_bytes.result.now c.in-Print.field-2 c.in-Print.args c.as_slice-in-Print.result.now c.in-Print.is (c.as_bytes.ensures.value ∙ c.as_str.ensures) c.as_slice-in-Print.ensures) ∙ c.print_output.ensures c.in-Print.field-0 c.in-Print.field-2 (state_in c.args.m.now) (c.in_ok-tick.ensures tt) done

pub stmt::stmt-returns-in-Return : goal.stmt::stmt-returns-in-Return
stmt::stmt-returns-in-Return g t c done =
    ap (λ x. stmt (program_in c.args.source.now) (caller_in c.args.source.now c.args.frames) x (state_in c.args.m.now)) (return_is c.args.s.now c.in-Return.e c.in-Return.field-1 c.in-Return.is) ∙ c.return_end.ensures c.in-Return.field-1 (state_in c.args.m.now) (c.in_ok-tick.ensures tt) done

pub stmt::stmt-returns-in-Block : goal.stmt::stmt-returns-in-Block
stmt::stmt-returns-in-Block g t c done =
    ticks_then (program_in c.args.source.now) (caller_in c.args.source.now c.args.frames) (stmt_of c.args.s.now) (tree.Block (stmts_of c.as_slice-in-Block.result.now)) (in_scope (does_stmts c.args.source.now c.args.frames c.as_slice-in-Block.result.now)) (state_in c.args.m.now) (state_in c.tick.new.m) _ (block_is c.args.s.now c.in-Block.ss c.as_slice-in-Block.result.now c.in-Block.is c.as_slice-in-Block.ensures) refl (c.in_ok-tick.ensures tt) (c.block.ensures done)

pub stmt::stmt-returns-in-Declare : goal.stmt::stmt-returns-in-Declare
stmt::stmt-returns-in-Declare g t c done =
    ticks_then (program_in c.args.source.now) (caller_in c.args.source.now c.args.frames) (stmt_of c.args.s.now) (tree.Declare (record { ty = c.in-Declare.d.ty; declarators = map declarator_of c.as_slice.result.now })) (declare (program_in c.args.source.now) (caller_in c.args.source.now c.args.frames) c.in-Declare.d.ty (map declarator_of c.as_slice.result.now)) (state_in c.args.m.now) (state_in c.tick.new.m) _ (declare_is c.args.s.now c.in-Declare.d c.as_slice.result.now c.in-Declare.is c.as_slice.ensures) refl (c.in_ok-tick.ensures tt) (c.declare.ensures done)

pub stmt::stmt-returns-in-DoWhile : goal.stmt::stmt-returns-in-DoWhile
stmt::stmt-returns-in-DoWhile g t c done =
    ticks_then (program_in c.args.source.now) (caller_in c.args.source.now c.args.frames) (stmt_of c.args.s.now) (tree.DoWhile (stmt_of c.get-in-DoWhile.result.now) (expr_of c.in-DoWhile.c)) (meaning.loop (do_turn (program_in c.args.source.now) (caller_in c.args.source.now c.args.frames) (stmt_of c.get-in-DoWhile.result.now) (expr_of c.in-DoWhile.c))) (state_in c.args.m.now) (state_in c.tick.new.m) _ (do_while_is c.args.s.now c.in-DoWhile.a c.get-in-DoWhile.result.now c.in-DoWhile.c c.in-DoWhile.is c.get-in-DoWhile.ensures) refl (c.in_ok-tick.ensures tt) (c.repeat-in-DoWhile.ensures done)

pub stmt::stmt-returns-in-For : goal.stmt::stmt-returns-in-For
stmt::stmt-returns-in-For g t c done =
    ticks_then (program_in c.args.source.now) (caller_in c.args.source.now c.args.frames) (stmt_of c.args.s.now) (tree.For (start_of c.get-in-For.result.now.start) (option_map expr_of c.get-in-For.result.now.condition) (option_map simple_of c.get-in-For.result.now.step) (stmt_of c.get-in-For-2.result.now)) (in_scope (for_all (program_in c.args.source.now) (caller_in c.args.source.now c.args.frames) (start_of c.get-in-For.result.now.start) (option_map expr_of c.get-in-For.result.now.condition) (option_map simple_of c.get-in-For.result.now.step) (stmt_of c.get-in-For-2.result.now))) (state_in c.args.m.now) (state_in c.tick.new.m) _ (for_is c.args.s.now c.in-For.head c.get-in-For.result.now c.in-For.a c.get-in-For-2.result.now c.in-For.is c.get-in-For.ensures c.get-in-For-2.ensures) refl (c.in_ok-tick.ensures tt) (c.for_scoped.ensures done)

pub stmt::stmt-returns-in-Transaction : goal.stmt::stmt-returns-in-Transaction
stmt::stmt-returns-in-Transaction g t c done =
    ticks_then (program_in c.args.source.now) (caller_in c.args.source.now c.args.frames) (stmt_of c.args.s.now) (tree.Transaction c.in-Transaction.kind (stmts_of c.as_slice-in-Transaction.result.now) c.in-Transaction.field-2) (meaning.transaction c.in-Transaction.kind (in_scope (does_stmts c.args.source.now c.args.frames c.as_slice-in-Transaction.result.now))) (state_in c.args.m.now) (state_in c.tick.new.m) _ (transaction_is c.args.s.now c.in-Transaction.kind c.in-Transaction.ss c.as_slice-in-Transaction.result.now c.in-Transaction.field-2 c.in-Transaction.is c.as_slice-in-Transaction.ensures) refl (c.in_ok-tick.ensures tt) (c.transaction.ensures done)

pub stmt::stmt-returns-in-While : goal.stmt::stmt-returns-in-While
stmt::stmt-returns-in-While g t c done =
    ticks_then (program_in c.args.source.now) (caller_in c.args.source.now c.args.frames) (stmt_of c.args.s.now) (tree.While (expr_of c.in-While.c) (stmt_of c.get-in-While.result.now)) (meaning.loop (while_turn (program_in c.args.source.now) (caller_in c.args.source.now c.args.frames) (expr_of c.in-While.c) (stmt_of c.get-in-While.result.now))) (state_in c.args.m.now) (state_in c.tick.new.m) _ (while_is c.args.s.now c.in-While.c c.in-While.a c.get-in-While.result.now c.in-While.is c.get-in-While.ensures) refl (c.in_ok-tick.ensures tt) (c.repeat.ensures done)

pub stmt::stmt-transaction-requires : goal.stmt::stmt-transaction-requires
stmt::stmt-transaction-requires g t c κs within =
    (omega (arith, transaction_deep c.args.s.now c.in-Transaction.kind c.in-Transaction.ss c.as_slice-in-Transaction.result.now c.in-Transaction.field-2 c.in-Transaction.is c.as_slice-in-Transaction.ensures, c.decreases), within)

pub stmt::stmts-returns : goal.stmt::stmts-returns
stmt::stmts-returns g t c done =
    stmts_end (program_in c.args.source.now) (caller_in c.args.source.now c.args.frames) c.args.ss.now c.statements.s-index (state_in c.statements.m) (does_stmts c.args.source.now c.args.frames c.args.ss.now (state_in c.args.m.now)) c.statements-test.false c.statements.invariant

pub stmt::stmts-returns-in_default : goal.stmt::stmts-returns-in_default
stmt::stmts-returns-in_default g t c done =
    stmts_left (program_in c.args.source.now) (caller_in c.args.source.now c.args.frames) c.args.ss.now c.statements.s-index c.s-item.result (state_in c.statements.m) (state_in c.stmt.new.m) c.in_ok-end.end (does_stmts c.args.source.now c.args.frames c.args.ss.now (state_in c.args.m.now)) c.statements-test.true c.s-item.is c.statements.invariant (c.in_ok-end.ensures tt) c.in_default.not-Next

pub stmt::stmts-returns-in_err-end : goal.stmt::stmts-returns-in_err-end
stmt::stmts-returns-in_err-end g t c =
    let is : c.from_residual.result ≡ Err c.in_err-end.field-0.0 = err_of c.from_residual.result c.in_err-end.field-0.0 c.from_residual.ensures.1 in
    stops_as completion_of c.from_residual.result c.in_err-end.field-0.0 _ c.stmt.new.m is (λ d. stmts_halt (program_in c.args.source.now) (caller_in c.args.source.now c.args.frames) c.args.ss.now c.statements.s-index c.s-item.result (state_in c.statements.m) (state_in c.stmt.new.m) _ (does_stmts c.args.source.now c.args.frames c.args.ss.now (state_in c.args.m.now)) c.statements-test.true c.s-item.is c.statements.invariant (c.in_err-end.ensures d))

pub stmt::stmts-statements-preserved : goal.stmt::stmts-statements-preserved
stmt::stmts-statements-preserved g t c =
    stmts_next (program_in c.args.source.now) (caller_in c.args.source.now c.args.frames) c.args.ss.now c.statements.s-index c.s-item.result (state_in c.statements.m) (state_in c.stmt.new.m) c.in_ok-end.end (does_stmts c.args.source.now c.args.frames c.args.ss.now (state_in c.args.m.now)) c.statements-test.true c.s-item.is c.statements.invariant (c.in_ok-end.ensures tt) c.in-Next.is

pub stmt::stmts-stmt-requires : goal.stmt::stmts-stmt-requires
stmt::stmts-stmt-requires g t c κs within =
    (omega (arith, statement_deep c.args.ss.now c.statements.s-index c.s-item.result c.statements-test.true c.s-item.is, c.decreases), within)

pub transactions::transaction-returns-in-Inside : goal.transactions::transaction-returns-in-Inside
transactions::transaction-returns-in-Inside g t c done =
    transaction_at c.args.kind (does_body c.args.source.now c.args.frames c.args.body.now) (state_in c.args.m.now) (act.Inside c.in-Inside.outer c.in-Inside.found.items) _ (ap context_in (sym c.replace.ensures.value ∙ c.in-Inside.is)) (c.nested_transaction.ensures done)

pub transactions::transaction-returns-in-Outside : goal.transactions::transaction-returns-in-Outside
transactions::transaction-returns-in-Outside g t c done =
    transaction_at c.args.kind (does_body c.args.source.now c.args.frames c.args.body.now) (state_in c.args.m.now) (act.Outside (memories_in c.in-Outside.founds.now) (memories_in c.in-Outside.lefts.items)) _ (ap context_in (sym c.replace.ensures.value ∙ c.in-Outside.is)) (c.outermost.ensures done)

pub transactions::run_body-returns-in-Block : goal.transactions::run_body-returns-in-Block
transactions::run_body-returns-in-Block g t c done =
    ap (λ b. does_body c.args.source.now c.args.frames b (state_in c.args.m.now)) c.in-Block.is ∙ c.block.ensures done

pub transactions::value_transaction-returns : goal.transactions::value_transaction-returns
transactions::value_transaction-returns g t c done =
    value_gives c.args.mode (does_expr c.args.source.now c.args.frames c.args.e.now) (state_in c.args.m.now) (state_in c.begin_value.new.m) (state_in c.transaction.new.m) (completion_of c.in_ok-end.end) _ (c.in_ok-begin_value.ensures tt) (c.in_ok-end.ensures tt) (c.value_at.ensures done)

pub transactions::value_transaction-returns-in_err-begin_value : goal.transactions::value_transaction-returns-in_err-begin_value
transactions::value_transaction-returns-in_err-begin_value g t c =
    let is : c.from_residual.result ≡ Err c.in_err-begin_value.field-0.0 = err_of c.from_residual.result c.in_err-begin_value.field-0.0 c.from_residual.ensures.1 in
    stops_as value_of c.from_residual.result c.in_err-begin_value.field-0.0 _ c.begin_value.new.m is (λ d. value_unbegun c.args.mode (does_expr c.args.source.now c.args.frames c.args.e.now) (state_in c.args.m.now) (state_in c.begin_value.new.m) _ (c.in_err-begin_value.ensures d))

pub transactions::value_transaction-returns-in_err-end : goal.transactions::value_transaction-returns-in_err-end
transactions::value_transaction-returns-in_err-end g t c =
    let is : c.from_residual-in_err-end.result ≡ Err c.in_err-end.field-0.0 = err_of c.from_residual-in_err-end.result c.in_err-end.field-0.0 c.from_residual-in_err-end.ensures.1 in
    stops_as value_of c.from_residual-in_err-end.result c.in_err-end.field-0.0 _ c.transaction.new.m is (λ d. value_stops c.args.mode (does_expr c.args.source.now c.args.frames c.args.e.now) (state_in c.args.m.now) (state_in c.begin_value.new.m) (state_in c.transaction.new.m) _ (c.in_ok-begin_value.ensures tt) (c.in_err-end.ensures d))

pub loops::turn-returns-in-DoWhile : goal.loops::turn-returns-in-DoWhile
loops::turn-returns-in-DoWhile g t c done =
    ap (λ l. does_turn c.args.source.now c.args.frames l (state_in c.args.m.now)) c.in-DoWhile.is ∙ c.turn_do.ensures done

pub calls::values-arguments-init : goal.calls::values-arguments-init
calls::values-arguments-init g t c =
    ap (λ us. go_on (exprs (program_in c.args.source.now) (caller_in c.args.source.now c.args.frames) (exprs_of c.args.args.now) (state_in c.args.m.now)) (joined_to us)) c.new-values.ensures.items ∙ values_start (program_in c.args.source.now) (caller_in c.args.source.now c.args.frames) c.args.args.now (state_in c.args.m.now)

pub calls::values-arguments-preserved : goal.calls::values-arguments-preserved
calls::values-arguments-preserved g t c =
    let grown : c.push.new.self.items ≡ c.arguments.values.items ++ value_of c.in_ok-v.v ∷ [] =
    c.push.ensures.items ∙ ap (λ (b : Bool). if b then c.arguments.values.items ++ c.unpack.result ∷ [] else c.arguments.values.items) c.if-is_err.ensures.negation ∙ ap (λ v. c.arguments.values.items ++ v ∷ []) c.unpack.ensures in
    values_next (program_in c.args.source.now) (caller_in c.args.source.now c.args.frames) c.args.args.now c.arguments.e-index c.e-item.result (state_in c.arguments.m) (state_in c.eval.new.m) c.arguments.values.items c.push.new.self.items (value_of c.in_ok-v.v) (exprs (program_in c.args.source.now) (caller_in c.args.source.now c.args.frames) (exprs_of c.args.args.now) (state_in c.args.m.now)) c.arguments-test.true c.e-item.is c.arguments.invariant (c.in_ok-v.ensures tt) grown

pub calls::values-eval-requires : goal.calls::values-eval-requires
calls::values-eval-requires g t c κs within =
    (omega (arith, argument_deep c.args.args.now c.arguments.e-index c.e-item.result c.arguments-test.true c.e-item.is, c.decreases), within)

pub calls::values-returns : goal.calls::values-returns
calls::values-returns g t c done =
    values_end (program_in c.args.source.now) (caller_in c.args.source.now c.args.frames) c.args.args.now c.arguments.e-index (state_in c.arguments.m) c.arguments.values.items (exprs (program_in c.args.source.now) (caller_in c.args.source.now c.args.frames) (exprs_of c.args.args.now) (state_in c.args.m.now)) c.arguments-test.false c.arguments.invariant

pub calls::values-returns-in_err-v : goal.calls::values-returns-in_err-v
calls::values-returns-in_err-v g t c =
    let is : c.from_residual.result ≡ Err c.in_err-v.field-0.0 = err_of c.from_residual.result c.in_err-v.field-0.0 c.from_residual.ensures.1 in
    stops_as (λ v. v.items) c.from_residual.result c.in_err-v.field-0.0 _ c.eval.new.m is (λ d. values_halt (program_in c.args.source.now) (caller_in c.args.source.now c.args.frames) c.args.args.now c.arguments.e-index c.e-item.result (state_in c.arguments.m) (state_in c.eval.new.m) c.arguments.values.items _ (exprs (program_in c.args.source.now) (caller_in c.args.source.now c.args.frames) (exprs_of c.args.args.now) (state_in c.args.m.now)) c.arguments-test.true c.e-item.is c.arguments.invariant (c.in_err-v.ensures d))

-- ---- each call goes down

pub expr::eval-element-requires : goal.expr::eval-element-requires
expr::eval-element-requires g t c κs within =
    (omega (arith, ap expr_depth (element_is c.args.e.now c.in-Element.x c.in-Element.i c.get.result.now c.in-Element.span c.in-Element.is c.get.ensures), c.decreases), within)

pub expr::eval-call-requires : goal.expr::eval-call-requires
expr::eval-call-requires g t c κs within =
    (omega (arith, ap expr_depth (call_is c.args.e.now c.in-Call.f c.in-Call.args c.as_slice.result.now c.in-Call.at c.in-Call.is c.as_slice.ensures), c.decreases), within)

pub expr::eval-eval-requires : goal.expr::eval-eval-requires
expr::eval-eval-requires g t c κs within =
    (omega (arith, ap expr_depth (parenthesized_is c.args.e.now c.in-Parenthesized.e c.get-in-Parenthesized.result.now c.in-Parenthesized.field-1 c.in-Parenthesized.is c.get-in-Parenthesized.ensures), c.decreases), within)

pub expr::eval-eval-requires-in-Cast : goal.expr::eval-eval-requires-in-Cast
expr::eval-eval-requires-in-Cast g t c κs within =
    (omega (arith, ap expr_depth (cast_is c.args.e.now c.in-Cast.ty c.in-Cast.e c.get-in-Cast.result.now c.in-Cast.field-2 c.in-Cast.is c.get-in-Cast.ensures), c.decreases), within)

pub expr::eval-eval-requires-in-Unary : goal.expr::eval-eval-requires-in-Unary
expr::eval-eval-requires-in-Unary g t c κs within =
    (omega (arith, ap expr_depth (unary_is c.args.e.now c.in-Unary.op c.in-Unary.e c.get-in-Unary.result.now c.in-Unary.at c.in-Unary.is c.get-in-Unary.ensures), c.decreases), within)

pub expr::eval-eval-requires-in-Binary : goal.expr::eval-eval-requires-in-Binary
expr::eval-eval-requires-in-Binary g t c κs within =
    (omega (arith, ap expr_depth (binary_is c.args.e.now c.in-Binary.op c.in-Binary.a c.in-Binary.b c.get-in-Binary.result.now c.in-Binary.b c.in-Binary.at c.in-Binary.is c.get-in-Binary.ensures refl), c.decreases), within)

pub expr::eval-eval-requires-in-Binary-2 : goal.expr::eval-eval-requires-in-Binary-2
expr::eval-eval-requires-in-Binary-2 g t c κs within =
    (omega (arith, ap expr_depth (binary_is c.args.e.now c.in-Binary.op c.in-Binary.a c.in-Binary.b c.get-in-Binary.result.now c.get-in-Binary-2.result.now c.in-Binary.at c.in-Binary.is c.get-in-Binary.ensures c.get-in-Binary-2.ensures), c.decreases), within)

pub expr::eval-logical-requires : goal.expr::eval-logical-requires
expr::eval-logical-requires g t c κs within =
    (omega (arith, ap expr_depth (logical_is c.args.e.now c.in-Logical.op c.in-Logical.a c.in-Logical.b c.get-in-Logical.result.now c.get-in-Logical-2.result.now c.in-Logical.field-3 c.in-Logical.is c.get-in-Logical.ensures c.get-in-Logical-2.ensures), c.decreases), within)

pub expr::eval-value_transaction-requires : goal.expr::eval-value_transaction-requires
expr::eval-value_transaction-requires g t c κs within =
    (omega (arith, ap expr_depth (in_transaction_is c.args.e.now c.in-InTransaction.mode c.in-InTransaction.keyword c.in-InTransaction.e c.get-in-InTransaction.result.now c.in-InTransaction.field-3 c.in-InTransaction.is c.get-in-InTransaction.ensures), c.decreases), within)

pub expr::eval-conditional-requires : goal.expr::eval-conditional-requires
expr::eval-conditional-requires g t c κs within =
    (omega (arith, ap expr_depth (conditional_is c.args.e.now c.in-Conditional.c c.in-Conditional.a c.in-Conditional.b c.get-in-Conditional.result.now c.get-in-Conditional-2.result.now c.get-in-Conditional-3.result.now c.in-Conditional.field-3 c.in-Conditional.is c.get-in-Conditional.ensures c.get-in-Conditional-2.ensures c.get-in-Conditional-3.ensures), c.decreases), within)

pub expr::logical-eval-requires : goal.expr::logical-eval-requires
expr::logical-eval-requires g t c κs within =
    (omega (arith, c.decreases), within)

pub expr::logical-eval-requires-else-is_zero : goal.expr::logical-eval-requires-else-is_zero
expr::logical-eval-requires-else-is_zero g t c κs within =
    (omega (arith, c.decreases), within)

pub expr::conditional-eval-requires : goal.expr::conditional-eval-requires
expr::conditional-eval-requires g t c κs within =
    (omega (arith, c.decreases), within)

pub expr::conditional-eval-requires-then-is_zero : goal.expr::conditional-eval-requires-then-is_zero
expr::conditional-eval-requires-then-is_zero g t c κs within =
    (omega (arith, c.decreases), within)

pub expr::conditional-eval-requires-else-is_zero : goal.expr::conditional-eval-requires-else-is_zero
expr::conditional-eval-requires-else-is_zero g t c κs within =
    (omega (arith, c.decreases), within)

pub expr::element-eval-requires : goal.expr::element-eval-requires
expr::element-eval-requires g t c κs within =
    (omega (arith, c.decreases), within)

pub calls::call-values-requires : goal.calls::call-values-requires
calls::call-values-requires g t c κs within =
    (omega (arith, c.decreases), within)

pub calls::call-enter_function-requires : goal.calls::call-enter_function-requires
calls::call-enter_function-requires g t c κs within =
    (omega (arith, c.decreases), within)

pub simple::target-element-requires : goal.simple::target-element-requires
simple::target-element-requires g t c κs within =
    (omega (arith, ap expr_depth (element_is c.args.e.now c.in-Element.x c.in-Element.i c.get.result.now c.in-Element.at c.in-Element.is c.get.ensures), c.decreases), within)

pub simple::simple_assignment-target-requires : goal.simple::simple_assignment-target-requires
simple::simple_assignment-target-requires g t c κs within =
    (omega (arith, c.decreases), within)

pub simple::simple_assignment-eval-requires : goal.simple::simple_assignment-eval-requires
simple::simple_assignment-eval-requires g t c κs within =
    (omega (arith, c.decreases), within)

pub simple::compound_assignment-target-requires : goal.simple::compound_assignment-target-requires
simple::compound_assignment-target-requires g t c κs within =
    (omega (arith, c.decreases), within)

pub simple::compound_assignment-eval-requires : goal.simple::compound_assignment-eval-requires
simple::compound_assignment-eval-requires g t c κs within =
    (omega (arith, c.decreases), within)

pub simple::simple-eval-requires : goal.simple::simple-eval-requires
simple::simple-eval-requires g t c κs within =
    (omega (arith, ap (λ s. simple_depth (simple_of s)) c.in-Evaluate.is, c.decreases), within)

pub simple::simple-simple_assignment-requires : goal.simple::simple-simple_assignment-requires
simple::simple-simple_assignment-requires g t c κs within =
    (omega (arith, ap (λ s. simple_depth (simple_of s)) c.in-Assign.is, c.decreases), within)

pub simple::simple-compound_assignment-requires : goal.simple::simple-compound_assignment-requires
simple::simple-compound_assignment-requires g t c κs within =
    (omega (arith, ap (λ s. simple_depth (simple_of s)) c.in-Assign.is, c.decreases), within)

pub simple::simple-target-requires : goal.simple::simple-target-requires
simple::simple-target-requires g t c κs within =
    (omega (arith, ap (λ s. simple_depth (simple_of s)) c.in-Adjust.is, c.decreases), within)

pub simple::declare_one-eval-requires : goal.simple::declare_one-eval-requires
simple::declare_one-eval-requires g t c κs within =
    (omega (arith, ap (λ o. optional_depth (option_map expr_of o)) c.in-Some.is, c.decreases), within)

pub stmt::stmt-declare-requires : goal.stmt::stmt-declare-requires
stmt::stmt-declare-requires g t c κs within =
    (omega (arith, ap stmt_depth (declare_is c.args.s.now c.in-Declare.d c.as_slice.result.now c.in-Declare.is c.as_slice.ensures), c.decreases), within)

pub stmt::stmt-simple-requires : goal.stmt::stmt-simple-requires
stmt::stmt-simple-requires g t c κs within =
    (omega (arith, do_deep c.args.s.now c.in-Do.s c.in-Do.is, c.decreases), within)

pub stmt::stmt-print_output-requires : goal.stmt::stmt-print_output-requires
stmt::stmt-print_output-requires g t c κs within =
    (omega (arith, ap stmt_depth (print_is c.args.s.now c.in-Print.field-0 c.in-Print.format c.as_bytes.result.now c.in-Print.field-2 c.in-Print.args c.as_slice-in-Print.result.now c.in-Print.is (c.as_bytes.ensures.value ∙ c.as_str.ensures) c.as_slice-in-Print.ensures), c.decreases), within)

pub stmt::stmt-either-requires : goal.stmt::stmt-either-requires
stmt::stmt-either-requires g t c κs within =
    (omega (arith, if_deep c.args.s.now c.in-If.c c.in-If.a c.get.result.now c.in-If.b c.in-If.is c.get.ensures, c.decreases), within)

pub stmt::stmt-repeat-requires : goal.stmt::stmt-repeat-requires
stmt::stmt-repeat-requires g t c κs within =
    (omega (arith, ap stmt_depth (while_is c.args.s.now c.in-While.c c.in-While.a c.get-in-While.result.now c.in-While.is c.get-in-While.ensures), c.decreases), within)

pub stmt::stmt-repeat-requires-in-DoWhile : goal.stmt::stmt-repeat-requires-in-DoWhile
stmt::stmt-repeat-requires-in-DoWhile g t c κs within =
    (omega (arith, ap stmt_depth (do_while_is c.args.s.now c.in-DoWhile.a c.get-in-DoWhile.result.now c.in-DoWhile.c c.in-DoWhile.is c.get-in-DoWhile.ensures), c.decreases), within)

pub stmt::stmt-for_scoped-requires : goal.stmt::stmt-for_scoped-requires
stmt::stmt-for_scoped-requires g t c κs within =
    (omega (arith, ap stmt_depth (for_is c.args.s.now c.in-For.head c.get-in-For.result.now c.in-For.a c.get-in-For-2.result.now c.in-For.is c.get-in-For.ensures c.get-in-For-2.ensures), c.decreases), within)

pub stmt::stmt-return_end-requires : goal.stmt::stmt-return_end-requires
stmt::stmt-return_end-requires g t c κs within =
    (omega (arith, ap stmt_depth (return_is c.args.s.now c.in-Return.e c.in-Return.field-1 c.in-Return.is), c.decreases), within)

pub stmt::block-stmts-requires : goal.stmt::block-stmts-requires
stmt::block-stmts-requires g t c κs within =
    (omega (arith, c.decreases), within)

pub stmt::scoped_stmt-stmt-requires : goal.stmt::scoped_stmt-stmt-requires
stmt::scoped_stmt-stmt-requires g t c κs within =
    (omega (arith, c.decreases), within)

pub stmt::print_output-values-requires : goal.stmt::print_output-values-requires
stmt::print_output-values-requires g t c κs within =
    (omega (arith, c.decreases), within)

pub stmt::either-eval-requires : goal.stmt::either-eval-requires
stmt::either-eval-requires g t c κs within =
    (omega (arith, c.decreases), within)

pub stmt::either-scoped_stmt-requires : goal.stmt::either-scoped_stmt-requires
stmt::either-scoped_stmt-requires g t c κs within =
    (omega (arith, c.decreases), within)

pub stmt::either-scoped_stmt-requires-in-Some : goal.stmt::either-scoped_stmt-requires-in-Some
stmt::either-scoped_stmt-requires-in-Some g t c κs within =
    (omega (arith, ap (λ o. else_depth (option_map stmt_of o)) c.in-Some.is, ap (λ s. stmt_depth (stmt_of s)) c.get.ensures, c.decreases), within)

pub stmt::return_end-eval-requires : goal.stmt::return_end-eval-requires
stmt::return_end-eval-requires g t c κs within =
    (omega (arith, ap (λ o. optional_depth (option_map expr_of o)) c.in-Some.is, c.decreases), within)

pub loops::repeat-turn-requires : goal.loops::repeat-turn-requires
loops::repeat-turn-requires g t c κs within =
    (omega (arith, c.decreases), within)

pub loops::turn-turn_while-requires : goal.loops::turn-turn_while-requires
loops::turn-turn_while-requires g t c κs within =
    (omega (arith, ap loop_depth c.in-While.is, c.decreases), within)

pub loops::turn-turn_do-requires : goal.loops::turn-turn_do-requires
loops::turn-turn_do-requires g t c κs within =
    (omega (arith, ap loop_depth c.in-DoWhile.is, c.decreases), within)

pub loops::turn-turn_for-requires : goal.loops::turn-turn_for-requires
loops::turn-turn_for-requires g t c κs within =
    (omega (arith, ap loop_depth c.in-For.is, c.decreases), within)

pub loops::turn_while-loop_test-requires : goal.loops::turn_while-loop_test-requires
loops::turn_while-loop_test-requires g t c κs within =
    (omega (arith, c.decreases), within)

pub loops::turn_while-scoped_stmt-requires : goal.loops::turn_while-scoped_stmt-requires
loops::turn_while-scoped_stmt-requires g t c κs within =
    (omega (arith, c.decreases), within)

pub loops::loop_test-eval-requires : goal.loops::loop_test-eval-requires
loops::loop_test-eval-requires g t c κs within =
    (omega (arith, c.decreases), within)

pub loops::turn_do-scoped_stmt-requires : goal.loops::turn_do-scoped_stmt-requires
loops::turn_do-scoped_stmt-requires g t c κs within =
    (omega (arith, c.decreases), within)

pub loops::turn_do-loop_test-requires : goal.loops::turn_do-loop_test-requires
loops::turn_do-loop_test-requires g t c κs within =
    (omega (arith, c.decreases), within)

pub loops::turn_for-for_condition-requires : goal.loops::turn_for-for_condition-requires
loops::turn_for-for_condition-requires g t c κs within =
    (omega (arith, c.decreases), within)

pub loops::turn_for-scoped_stmt-requires : goal.loops::turn_for-scoped_stmt-requires
loops::turn_for-scoped_stmt-requires g t c κs within =
    (omega (arith, c.decreases), within)

pub loops::turn_for-for_step-requires : goal.loops::turn_for-for_step-requires
loops::turn_for-for_step-requires g t c κs within =
    (omega (arith, c.decreases), within)

pub loops::for_condition-eval-requires : goal.loops::for_condition-eval-requires
loops::for_condition-eval-requires g t c κs within =
    (omega (arith, ap (λ o. optional_depth (option_map expr_of o)) c.in-Some.is, c.decreases), within)

pub loops::for_step-simple-requires : goal.loops::for_step-simple-requires
loops::for_step-simple-requires g t c κs within =
    (omega (arith, ap (λ o. optional_simple_depth (option_map simple_of o)) c.in-Some.is, c.decreases), within)

pub loops::for_scoped-for_run-requires : goal.loops::for_scoped-for_run-requires
loops::for_scoped-for_run-requires g t c κs within =
    (omega (arith, c.decreases), within)

pub loops::for_run-for_start-requires : goal.loops::for_run-for_start-requires
loops::for_run-for_start-requires g t c κs within =
    (omega (arith, c.decreases), within)

pub loops::for_run-repeat-requires : goal.loops::for_run-repeat-requires
loops::for_run-repeat-requires g t c κs within =
    (omega (arith, c.decreases), within)

pub loops::for_start-declare-requires : goal.loops::for_start-declare-requires
loops::for_start-declare-requires g t c κs within =
    (omega (arith, ap (λ s. start_depth (start_of s)) c.in-Declare.is, ap (λ ds. deepest_value (map declarator_of ds)) c.as_slice.ensures, c.decreases), within)

pub loops::for_start-simple-requires : goal.loops::for_start-simple-requires
loops::for_start-simple-requires g t c κs within =
    (omega (arith, ap (λ s. start_depth (start_of s)) c.in-Do.is, c.decreases), within)

pub transactions::transaction-outermost-requires : goal.transactions::transaction-outermost-requires
transactions::transaction-outermost-requires g t c κs within =
    (omega (arith, c.decreases), within)

pub transactions::transaction-nested_transaction-requires : goal.transactions::transaction-nested_transaction-requires
transactions::transaction-nested_transaction-requires g t c κs within =
    (omega (arith, c.decreases), within)

pub transactions::outermost-run_body-requires : goal.transactions::outermost-run_body-requires
transactions::outermost-run_body-requires g t c κs within =
    (omega (arith, c.decreases), within)

pub transactions::nested_transaction-run_body-requires : goal.transactions::nested_transaction-run_body-requires
transactions::nested_transaction-run_body-requires g t c κs within =
    (omega (arith, c.decreases), within)

pub transactions::run_body-block-requires : goal.transactions::run_body-block-requires
transactions::run_body-block-requires g t c κs within =
    (omega (arith, ap depth_within c.in-Block.is, c.decreases), within)

pub transactions::run_body-eval-requires : goal.transactions::run_body-eval-requires
transactions::run_body-eval-requires g t c κs within =
    (omega (arith, ap depth_within c.in-Value.is, c.decreases), within)

pub transactions::value_transaction-transaction-requires : goal.transactions::value_transaction-transaction-requires
transactions::value_transaction-transaction-requires g t c κs within =
    (omega (arith, c.decreases), within)
