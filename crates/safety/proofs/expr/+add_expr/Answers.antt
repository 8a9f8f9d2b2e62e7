use Rattle.std.proofs.Common.{◌++◌, ap, sym, refl, ◌∙◌, arith}
use denote.Param.Weighed.{most, at_most}
use Rattle.std.proofs.lemmas.List.{at_drop_all}
use Rattle.std.proofs.lemmas.Result.{on_ok_weaker}
use Rattle.syntax.specs.Views.{expr_of, exprs_of}
use Rattle.syntax.specs.declared.tree.Expr.{the_lemmas}
use Rattle.syntax.specs.declared.tree.TransactionKind.TheVariants.{Plain}
use Rattle.syntax.proofs.tree.Expr.TheLaws.{the_size}
use Rattle.safety.specs.Sites.{expr_sites, exprs_sites}
use Rattle.safety.specs.inner.Known.{names_in, around_in}
use Rattle.safety.proofs.Walks.{two, same, next, done, variable_sites, element_sites, call_sites, parenthesized_sites, cast_sites, unary_sites, binary_sites, logical_sites, conditional_sites, in_transaction_sites, kind_anywhere, exprs_more}
use Rattle.safety.proofs.expr.+add_expr.Goals as goal

pub add_expr-add_expr-requires : goal.add_expr-add_expr-requires
add_expr-add_expr-requires g t c κs within =
    let size = simp the_lemmas at (ap (the_size g.row.A g.A.Allocator g.A.laws) c.in-Element.is) in
    let here = ap (the_size g.row.A g.A.Allocator g.A.laws) c.get.ensures in
    (omega (arith, size, here, c.decreases), within)

pub add_expr-add_expr-requires-in-Parenthesized : goal.add_expr-add_expr-requires-in-Parenthesized
add_expr-add_expr-requires-in-Parenthesized g t c κs within =
    let size = simp the_lemmas at (ap (the_size g.row.A g.A.Allocator g.A.laws) c.in-Parenthesized.is) in
    let here = ap (the_size g.row.A g.A.Allocator g.A.laws) c.get-in-Parenthesized.ensures in
    (omega (arith, size, here, c.decreases), within)

pub add_expr-add_expr-requires-in-Cast : goal.add_expr-add_expr-requires-in-Cast
add_expr-add_expr-requires-in-Cast g t c κs within =
    let size = simp the_lemmas at (ap (the_size g.row.A g.A.Allocator g.A.laws) c.in-Cast.is) in
    let here = ap (the_size g.row.A g.A.Allocator g.A.laws) c.get-in-Cast.ensures in
    (omega (arith, size, here, c.decreases), within)

pub add_expr-add_expr-requires-in-Unary : goal.add_expr-add_expr-requires-in-Unary
add_expr-add_expr-requires-in-Unary g t c κs within =
    let size = simp the_lemmas at (ap (the_size g.row.A g.A.Allocator g.A.laws) c.in-Unary.is) in
    let here = ap (the_size g.row.A g.A.Allocator g.A.laws) c.get-in-Unary.ensures in
    (omega (arith, size, here, c.decreases), within)

pub add_expr-add_expr-requires-in-Binary : goal.add_expr-add_expr-requires-in-Binary
add_expr-add_expr-requires-in-Binary g t c κs within =
    let size = simp the_lemmas at (ap (the_size g.row.A g.A.Allocator g.A.laws) c.in-Binary.is) in
    let here = ap (the_size g.row.A g.A.Allocator g.A.laws) c.get-in-Binary.ensures in
    (omega (arith, size, here, c.decreases), within)

pub add_expr-add_expr-requires-in-Binary-2 : goal.add_expr-add_expr-requires-in-Binary-2
add_expr-add_expr-requires-in-Binary-2 g t c κs within =
    let size = simp the_lemmas at (ap (the_size g.row.A g.A.Allocator g.A.laws) c.in-Binary.is) in
    let here = ap (the_size g.row.A g.A.Allocator g.A.laws) c.get-in-Binary-2.ensures in
    (omega (arith, size, here, c.decreases), within)

pub add_expr-add_expr-requires-in-Logical : goal.add_expr-add_expr-requires-in-Logical
add_expr-add_expr-requires-in-Logical g t c κs within =
    let size = simp the_lemmas at (ap (the_size g.row.A g.A.Allocator g.A.laws) c.in-Logical.is) in
    let here = ap (the_size g.row.A g.A.Allocator g.A.laws) c.get-in-Logical.ensures in
    (omega (arith, size, here, c.decreases), within)

pub add_expr-add_expr-requires-in-Logical-2 : goal.add_expr-add_expr-requires-in-Logical-2
add_expr-add_expr-requires-in-Logical-2 g t c κs within =
    let size = simp the_lemmas at (ap (the_size g.row.A g.A.Allocator g.A.laws) c.in-Logical.is) in
    let here = ap (the_size g.row.A g.A.Allocator g.A.laws) c.get-in-Logical-2.ensures in
    (omega (arith, size, here, c.decreases), within)

pub add_expr-add_expr-requires-in-Conditional : goal.add_expr-add_expr-requires-in-Conditional
add_expr-add_expr-requires-in-Conditional g t c κs within =
    let size = simp the_lemmas at (ap (the_size g.row.A g.A.Allocator g.A.laws) c.in-Conditional.is) in
    let here = ap (the_size g.row.A g.A.Allocator g.A.laws) c.get-in-Conditional.ensures in
    (omega (arith, size, here, c.decreases), within)

pub add_expr-add_expr-requires-in-Conditional-2 : goal.add_expr-add_expr-requires-in-Conditional-2
add_expr-add_expr-requires-in-Conditional-2 g t c κs within =
    let size = simp the_lemmas at (ap (the_size g.row.A g.A.Allocator g.A.laws) c.in-Conditional.is) in
    let here = ap (the_size g.row.A g.A.Allocator g.A.laws) c.get-in-Conditional-2.ensures in
    (omega (arith, size, here, c.decreases), within)

pub add_expr-add_expr-requires-in-Conditional-3 : goal.add_expr-add_expr-requires-in-Conditional-3
add_expr-add_expr-requires-in-Conditional-3 g t c κs within =
    let size = simp the_lemmas at (ap (the_size g.row.A g.A.Allocator g.A.laws) c.in-Conditional.is) in
    let here = ap (the_size g.row.A g.A.Allocator g.A.laws) c.get-in-Conditional-3.ensures in
    (omega (arith, size, here, c.decreases), within)

pub add_expr-add_expr-requires-in-InTransaction : goal.add_expr-add_expr-requires-in-InTransaction
add_expr-add_expr-requires-in-InTransaction g t c κs within =
    let size = simp the_lemmas at (ap (the_size g.row.A g.A.Allocator g.A.laws) c.in-InTransaction.is) in
    let here = ap (the_size g.row.A g.A.Allocator g.A.laws) c.get-in-InTransaction.ensures in
    (omega (arith, size, here, c.decreases), within)

pub add_expr-add_exprs-requires : goal.add_expr-add_exprs-requires
add_expr-add_exprs-requires g t c κs within =
    let size = simp the_lemmas at (ap (the_size g.row.A g.A.Allocator g.A.laws) c.in-Call.is) in
    let here = ap (most (the_size g.row.A g.A.Allocator g.A.laws)) c.as_slice.ensures in
    (omega (arith, size, here, c.decreases), within)

pub add_expr-returns-in-Variable : goal.add_expr-returns-in-Variable
add_expr-returns-in-Variable g t c =
    let w = around_in c.args.locals.now c.args.surroundings in
    on_ok_weaker c.add_use.result (same c.args.sites.now c.add_use.new.sites _ _ (variable_sites w c.args.e.now c.in-Variable.x c.in-Variable.is)) c.add_use.ensures

pub add_expr-returns-in_ok-add_use-in-Element : goal.add_expr-returns-in_ok-add_use-in-Element
add_expr-returns-in_ok-add_use-in-Element g t c =
    let w = around_in c.args.locals.now c.args.surroundings in
    on_ok_weaker c.add_expr.result (two c.args.sites.now c.add_use-in-Element.new.sites c.add_expr.new.sites _ _ _ (element_sites w c.args.e.now c.in-Element.x c.in-Element.index c.get.result.now c.in-Element.field-2 c.in-Element.is c.get.ensures) c.in_ok-add_use-in-Element.ensures) c.add_expr.ensures

pub add_expr-returns-in_ok-add-in-Call : goal.add_expr-returns-in_ok-add-in-Call
add_expr-returns-in_ok-add-in-Call g t c =
    let w = around_in c.args.locals.now c.args.surroundings in
    on_ok_weaker c.add_exprs.result (two c.args.sites.now c.add.new.sites c.add_exprs.new.sites _ _ _ (call_sites w c.args.e.now c.in-Call.f c.in-Call.args c.as_slice.result.now c.in-Call.field-2 c.as_str.result.now c.in-Call.is c.as_slice.ensures c.as_str.ensures) c.in_ok-add-in-Call.ensures) c.add_exprs.ensures

pub add_expr-returns-in-Parenthesized : goal.add_expr-returns-in-Parenthesized
add_expr-returns-in-Parenthesized g t c =
    let w = around_in c.args.locals.now c.args.surroundings in
    on_ok_weaker c.add_expr-in-Parenthesized.result (same c.args.sites.now c.add_expr-in-Parenthesized.new.sites _ _ (parenthesized_sites w c.args.e.now c.in-Parenthesized.e c.get-in-Parenthesized.result.now c.in-Parenthesized.field-1 c.in-Parenthesized.is c.get-in-Parenthesized.ensures)) c.add_expr-in-Parenthesized.ensures

pub add_expr-returns-in-Cast : goal.add_expr-returns-in-Cast
add_expr-returns-in-Cast g t c =
    let w = around_in c.args.locals.now c.args.surroundings in
    on_ok_weaker c.add_expr-in-Cast.result (same c.args.sites.now c.add_expr-in-Cast.new.sites _ _ (cast_sites w c.args.e.now c.in-Cast.field-0 c.in-Cast.e c.get-in-Cast.result.now c.in-Cast.field-2 c.in-Cast.is c.get-in-Cast.ensures)) c.add_expr-in-Cast.ensures

pub add_expr-returns-in-Unary : goal.add_expr-returns-in-Unary
add_expr-returns-in-Unary g t c =
    let w = around_in c.args.locals.now c.args.surroundings in
    on_ok_weaker c.add_expr-in-Unary.result (same c.args.sites.now c.add_expr-in-Unary.new.sites _ _ (unary_sites w c.args.e.now c.in-Unary.field-0 c.in-Unary.e c.get-in-Unary.result.now c.in-Unary.field-2 c.in-Unary.is c.get-in-Unary.ensures)) c.add_expr-in-Unary.ensures

pub add_expr-returns-in_ok-add_expr-in-Binary : goal.add_expr-returns-in_ok-add_expr-in-Binary
add_expr-returns-in_ok-add_expr-in-Binary g t c =
    let w = around_in c.args.locals.now c.args.surroundings in
    on_ok_weaker c.add_expr-in-Binary-2.result (two c.args.sites.now c.add_expr-in-Binary.new.sites c.add_expr-in-Binary-2.new.sites _ _ _ (binary_sites w c.args.e.now c.in-Binary.field-0 c.in-Binary.a c.in-Binary.b c.get-in-Binary.result.now c.get-in-Binary-2.result.now c.in-Binary.field-3 c.in-Binary.is c.get-in-Binary.ensures c.get-in-Binary-2.ensures) c.in_ok-add_expr-in-Binary.ensures) c.add_expr-in-Binary-2.ensures

pub add_expr-returns-in_ok-add_expr-in-Logical : goal.add_expr-returns-in_ok-add_expr-in-Logical
add_expr-returns-in_ok-add_expr-in-Logical g t c =
    let w = around_in c.args.locals.now c.args.surroundings in
    on_ok_weaker c.add_expr-in-Logical-2.result (two c.args.sites.now c.add_expr-in-Logical.new.sites c.add_expr-in-Logical-2.new.sites _ _ _ (logical_sites w c.args.e.now c.in-Logical.field-0 c.in-Logical.a c.in-Logical.b c.get-in-Logical.result.now c.get-in-Logical-2.result.now c.in-Logical.field-3 c.in-Logical.is c.get-in-Logical.ensures c.get-in-Logical-2.ensures) c.in_ok-add_expr-in-Logical.ensures) c.add_expr-in-Logical-2.ensures

pub add_expr-returns-in_ok-add_expr-in-Conditional-2 : goal.add_expr-returns-in_ok-add_expr-in-Conditional-2
add_expr-returns-in_ok-add_expr-in-Conditional-2 g t c =
    let w = around_in c.args.locals.now c.args.surroundings in
    let is = conditional_sites w c.args.e.now c.in-Conditional.c c.in-Conditional.a c.in-Conditional.b c.get-in-Conditional.result.now c.get-in-Conditional-2.result.now c.get-in-Conditional-3.result.now c.in-Conditional.field-3 c.in-Conditional.is c.get-in-Conditional.ensures c.get-in-Conditional-2.ensures c.get-in-Conditional-3.ensures in
    let first = two c.args.sites.now c.add_expr-in-Conditional.new.sites c.add_expr-in-Conditional-2.new.sites _ _ _ refl c.in_ok-add_expr-in-Conditional.ensures c.in_ok-add_expr-in-Conditional-2.ensures in
    on_ok_weaker c.add_expr-in-Conditional-3.result (two c.args.sites.now c.add_expr-in-Conditional-2.new.sites c.add_expr-in-Conditional-3.new.sites _ _ _ is first) c.add_expr-in-Conditional-3.ensures

pub add_expr-returns-in_ok-add_kind-in-InTransaction : goal.add_expr-returns-in_ok-add_kind-in-InTransaction
add_expr-returns-in_ok-add_kind-in-InTransaction g t c =
    let names = names_in c.args.locals.now in
    let w = around_in c.args.locals.now c.args.surroundings in
    let kind = Plain c.in-InTransaction.mode in
    let e = expr_of c.get-in-InTransaction.result.now in
    let is =
    in_transaction_sites w c.args.e.now c.in-InTransaction.mode c.in-InTransaction.keyword c.in-InTransaction.e c.get-in-InTransaction.result.now c.in-InTransaction.field-3 c.in-InTransaction.is c.get-in-InTransaction.ensures
    ∙ (λ i. kind_anywhere c.args.surroundings kind c.in-InTransaction.keyword names i ++ expr_sites e (sym (c.inside.ensures names) i)) in
    on_ok_weaker c.add_expr-in-InTransaction.result (two c.args.sites.now c.add_kind.new.sites c.add_expr-in-InTransaction.new.sites _ _ _ is c.in_ok-add_kind-in-InTransaction.ensures) c.add_expr-in-InTransaction.ensures

pub add_exprs-add_expr-requires : goal.add_exprs-add_expr-requires
add_exprs-add_expr-requires g t c κs within =
    let size = the_size g.row.A g.A.Allocator g.A.laws in
    let below = at_most size c.args.all.now c.each.one-index c.one-item.result c.each-test.true in
    let here = ap size c.one-item.is in
    (omega (arith, below, here, c.decreases), within)

pub add_exprs-each-preserved : goal.add_exprs-each-preserved
add_exprs-each-preserved g t c =
    let w = around_in c.args.locals.now c.args.surroundings in
    next c.args.sites.now c.each.sites c.add_expr.new.sites _ _ _ _ (exprs_more w c.args.all.now c.each.one-index c.one-item.result c.one-item.is c.each-test.true) c.in_ok-add_expr.ensures c.each.invariant

pub add_exprs-returns : goal.add_exprs-returns
add_exprs-returns g t c =
    let w = around_in c.args.locals.now c.args.surroundings in
    done c.args.sites.now c.each.sites _ _ (sym (at_drop_all (λ xs. exprs_sites (exprs_of xs) w) c.args.all.now c.each.one-index c.each-test.false)) c.each.invariant
