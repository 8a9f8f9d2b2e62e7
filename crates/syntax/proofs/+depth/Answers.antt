use Rattle.std.proofs.Common.{◌-◌, ◌^◌, min, ap, ◌∙◌, sym, max, arith}
use denote.Param.Weighed.{most, at_most}
use Rattle.syntax.specs.declared.tree.Expr.{the_lemmas}
use Rattle.syntax.proofs.tree.Expr.TheLaws.{the_size}
use Rattle.syntax.specs.Depth.{deepest, expr_depth}
use Rattle.syntax.specs.Views.{expr_of, exprs_of}
use Rattle.syntax.proofs.trees.Seen.{expr_of_element, expr_of_parenthesized, expr_of_cast, expr_of_unary, expr_of_binary, expr_of_logical, expr_of_conditional, expr_of_in_transaction}
use Rattle.syntax.proofs.trees.Depths.{cut_max, read_depth, ord_max_is, cut_more, cut_all, cut_one_more, deepest_more, deepest_all, depth_call}
use Rattle.syntax.proofs.+depth.Goals as goal

pub depth::deepest_of-depth-requires : goal.depth::deepest_of-depth-requires
depth::deepest_of-depth-requires g t c κs within =
    let size = the_size g.row.A g.A.Allocator g.A.laws in
    let below = at_most size c.args.args.now c.each.arg-index c.arg-item.result c.each-test.true in
    let here = ap size c.arg-item.is in
    (omega (arith, below, here, c.decreases), within)

pub tree::Expr::depth-deepest_of-requires : goal.tree::Expr::depth-deepest_of-requires
tree::Expr::depth-deepest_of-requires g t c κs within =
    let size = simp the_lemmas at (ap (the_size g.row.A g.A.Allocator g.A.laws) c.in-Call.is) in
    let here = ap (most (the_size g.row.A g.A.Allocator g.A.laws)) c.as_slice.ensures in
    (omega (arith, size, here, c.decreases), within)

pub tree::Expr::depth-depth-requires : goal.tree::Expr::depth-depth-requires
tree::Expr::depth-depth-requires g t c κs within =
    let size = simp the_lemmas at (ap (the_size g.row.A g.A.Allocator g.A.laws) c.in-Element.is) in
    let here = ap (the_size g.row.A g.A.Allocator g.A.laws) c.get.ensures in
    (omega (arith, size, here, c.decreases), within)

pub tree::Expr::depth-depth-requires-in-Parenthesized : goal.tree::Expr::depth-depth-requires-in-Parenthesized
tree::Expr::depth-depth-requires-in-Parenthesized g t c κs within =
    let size = simp the_lemmas at (ap (the_size g.row.A g.A.Allocator g.A.laws) c.in-Parenthesized.is) in
    let here = ap (the_size g.row.A g.A.Allocator g.A.laws) c.get-in-Parenthesized.ensures in
    (omega (arith, size, here, c.decreases), within)

pub tree::Expr::depth-depth-requires-in-InTransaction : goal.tree::Expr::depth-depth-requires-in-InTransaction
tree::Expr::depth-depth-requires-in-InTransaction g t c κs within =
    let size = simp the_lemmas at (ap (the_size g.row.A g.A.Allocator g.A.laws) c.in-InTransaction.is) in
    let here = ap (the_size g.row.A g.A.Allocator g.A.laws) c.get-in-InTransaction.ensures in
    (omega (arith, size, here, c.decreases), within)

pub tree::Expr::depth-depth-requires-in-Cast : goal.tree::Expr::depth-depth-requires-in-Cast
tree::Expr::depth-depth-requires-in-Cast g t c κs within =
    let size = simp the_lemmas at (ap (the_size g.row.A g.A.Allocator g.A.laws) c.in-Cast.is) in
    let here = ap (the_size g.row.A g.A.Allocator g.A.laws) c.get-in-Cast.ensures in
    (omega (arith, size, here, c.decreases), within)

pub tree::Expr::depth-depth-requires-in-Unary : goal.tree::Expr::depth-depth-requires-in-Unary
tree::Expr::depth-depth-requires-in-Unary g t c κs within =
    let size = simp the_lemmas at (ap (the_size g.row.A g.A.Allocator g.A.laws) c.in-Unary.is) in
    let here = ap (the_size g.row.A g.A.Allocator g.A.laws) c.get-in-Unary.ensures in
    (omega (arith, size, here, c.decreases), within)

pub tree::Expr::depth-depth-requires-in-Binary : goal.tree::Expr::depth-depth-requires-in-Binary
tree::Expr::depth-depth-requires-in-Binary g t c κs within =
    let size = simp the_lemmas at (ap (the_size g.row.A g.A.Allocator g.A.laws) c.in-Binary.is) in
    let here = ap (the_size g.row.A g.A.Allocator g.A.laws) c.get-in-Binary.ensures in
    (omega (arith, size, here, c.decreases), within)

pub tree::Expr::depth-depth-requires-in-Binary-2 : goal.tree::Expr::depth-depth-requires-in-Binary-2
tree::Expr::depth-depth-requires-in-Binary-2 g t c κs within =
    let size = simp the_lemmas at (ap (the_size g.row.A g.A.Allocator g.A.laws) c.in-Binary.is) in
    let here = ap (the_size g.row.A g.A.Allocator g.A.laws) c.get-in-Binary-2.ensures in
    (omega (arith, size, here, c.decreases), within)

pub tree::Expr::depth-depth-requires-in-Logical : goal.tree::Expr::depth-depth-requires-in-Logical
tree::Expr::depth-depth-requires-in-Logical g t c κs within =
    let size = simp the_lemmas at (ap (the_size g.row.A g.A.Allocator g.A.laws) c.in-Logical.is) in
    let here = ap (the_size g.row.A g.A.Allocator g.A.laws) c.get-in-Logical.ensures in
    (omega (arith, size, here, c.decreases), within)

pub tree::Expr::depth-depth-requires-in-Logical-2 : goal.tree::Expr::depth-depth-requires-in-Logical-2
tree::Expr::depth-depth-requires-in-Logical-2 g t c κs within =
    let size = simp the_lemmas at (ap (the_size g.row.A g.A.Allocator g.A.laws) c.in-Logical.is) in
    let here = ap (the_size g.row.A g.A.Allocator g.A.laws) c.get-in-Logical-2.ensures in
    (omega (arith, size, here, c.decreases), within)

pub tree::Expr::depth-depth-requires-in-Conditional : goal.tree::Expr::depth-depth-requires-in-Conditional
tree::Expr::depth-depth-requires-in-Conditional g t c κs within =
    let size = simp the_lemmas at (ap (the_size g.row.A g.A.Allocator g.A.laws) c.in-Conditional.is) in
    let here = ap (the_size g.row.A g.A.Allocator g.A.laws) c.get-in-Conditional.ensures in
    (omega (arith, size, here, c.decreases), within)

pub tree::Expr::depth-depth-requires-in-Conditional-2 : goal.tree::Expr::depth-depth-requires-in-Conditional-2
tree::Expr::depth-depth-requires-in-Conditional-2 g t c κs within =
    let size = simp the_lemmas at (ap (the_size g.row.A g.A.Allocator g.A.laws) c.in-Conditional.is) in
    let here = ap (the_size g.row.A g.A.Allocator g.A.laws) c.get-in-Conditional-2.ensures in
    (omega (arith, size, here, c.decreases), within)

pub tree::Expr::depth-depth-requires-in-Conditional-3 : goal.tree::Expr::depth-depth-requires-in-Conditional-3
tree::Expr::depth-depth-requires-in-Conditional-3 g t c κs within =
    let size = simp the_lemmas at (ap (the_size g.row.A g.A.Allocator g.A.laws) c.in-Conditional.is) in
    let here = ap (the_size g.row.A g.A.Allocator g.A.laws) c.get-in-Conditional-3.ensures in
    (omega (arith, size, here, c.decreases), within)

pub depth::deepest_of-each-preserved : goal.depth::deepest_of-each-preserved
depth::deepest_of-each-preserved g t c =
    let es = c.args.args.now in
    let i = c.each.arg-index in
    let here = deepest_more es i c.arg-item.result c.arg-item.is c.each-test.true in
    cut_more (2 ^ 64 - 1) c.each.most c.max-most.result c.depth.result (expr_depth (expr_of c.arg-item.result)) _ (deepest (exprs_of es)) (ap (λ front. max c.each.most (min front (2 ^ 64 - 1))) (sym here) ∙ c.each.invariant) c.depth.ensures (c.max-most.ensures ∙ ord_max_is c.each.most c.depth.result)

pub depth::deepest_of-returns : goal.depth::deepest_of-returns
depth::deepest_of-returns g t c =
    cut_all (2 ^ 64 - 1) c.each.most _ _ c.each.invariant (deepest_all c.args.args.now c.each.arg-index c.each-test.false)

pub tree::Expr::depth-returns-in-Call : goal.tree::Expr::depth-returns-in-Call
tree::Expr::depth-returns-in-Call g t c =
    cut_one_more (2 ^ 64 - 1) _ _ c.deepest_of.result c.saturating_add-in-Call.result (depth_call c.args.self.now c.in-Call.field-0 c.in-Call.args c.in-Call.field-2 c.in-Call.is) (c.deepest_of.ensures ∙ ap (λ es. min (deepest (exprs_of es)) (2 ^ 64 - 1)) c.as_slice.ensures) c.saturating_add-in-Call.ensures

pub tree::Expr::depth-returns-in-Element : goal.tree::Expr::depth-returns-in-Element
tree::Expr::depth-returns-in-Element g t c =
    let is = ap expr_depth (ap expr_of c.in-Element.is ∙ expr_of_element c.in-Element.field-0 c.in-Element.i c.in-Element.field-2) in
    cut_one_more (2 ^ 64 - 1) _ _ c.depth.result c.saturating_add.result is (read_depth (2 ^ 64 - 1) c.get.result.now c.in-Element.i c.depth.result c.depth.ensures c.get.ensures) c.saturating_add.ensures

pub tree::Expr::depth-returns-in-Parenthesized : goal.tree::Expr::depth-returns-in-Parenthesized
tree::Expr::depth-returns-in-Parenthesized g t c =
    let is = ap expr_depth (ap expr_of c.in-Parenthesized.is ∙ expr_of_parenthesized c.in-Parenthesized.e c.in-Parenthesized.field-1) in
    cut_one_more (2 ^ 64 - 1) _ _ c.depth-in-Parenthesized.result c.saturating_add-in-Parenthesized.result is (read_depth (2 ^ 64 - 1) c.get-in-Parenthesized.result.now c.in-Parenthesized.e c.depth-in-Parenthesized.result c.depth-in-Parenthesized.ensures c.get-in-Parenthesized.ensures) c.saturating_add-in-Parenthesized.ensures

pub tree::Expr::depth-returns-in-InTransaction : goal.tree::Expr::depth-returns-in-InTransaction
tree::Expr::depth-returns-in-InTransaction g t c =
    let is = ap expr_depth (ap expr_of c.in-InTransaction.is ∙ expr_of_in_transaction c.in-InTransaction.field-0 c.in-InTransaction.field-1 c.in-InTransaction.e c.in-InTransaction.field-3) in
    cut_one_more (2 ^ 64 - 1) _ _ c.depth-in-InTransaction.result c.saturating_add-in-InTransaction.result is (read_depth (2 ^ 64 - 1) c.get-in-InTransaction.result.now c.in-InTransaction.e c.depth-in-InTransaction.result c.depth-in-InTransaction.ensures c.get-in-InTransaction.ensures) c.saturating_add-in-InTransaction.ensures

pub tree::Expr::depth-returns-in-Cast : goal.tree::Expr::depth-returns-in-Cast
tree::Expr::depth-returns-in-Cast g t c =
    let is = ap expr_depth (ap expr_of c.in-Cast.is ∙ expr_of_cast c.in-Cast.field-0 c.in-Cast.e c.in-Cast.field-2) in
    cut_one_more (2 ^ 64 - 1) _ _ c.depth-in-Cast.result c.saturating_add-in-Cast.result is (read_depth (2 ^ 64 - 1) c.get-in-Cast.result.now c.in-Cast.e c.depth-in-Cast.result c.depth-in-Cast.ensures c.get-in-Cast.ensures) c.saturating_add-in-Cast.ensures

pub tree::Expr::depth-returns-in-Unary : goal.tree::Expr::depth-returns-in-Unary
tree::Expr::depth-returns-in-Unary g t c =
    let is = ap expr_depth (ap expr_of c.in-Unary.is ∙ expr_of_unary c.in-Unary.field-0 c.in-Unary.e c.in-Unary.field-2) in
    cut_one_more (2 ^ 64 - 1) _ _ c.depth-in-Unary.result c.saturating_add-in-Unary.result is (read_depth (2 ^ 64 - 1) c.get-in-Unary.result.now c.in-Unary.e c.depth-in-Unary.result c.depth-in-Unary.ensures c.get-in-Unary.ensures) c.saturating_add-in-Unary.ensures

pub tree::Expr::depth-returns-in-Binary : goal.tree::Expr::depth-returns-in-Binary
tree::Expr::depth-returns-in-Binary g t c =
    let is = ap expr_depth (ap expr_of c.in-Binary.is ∙ expr_of_binary c.in-Binary.field-0 c.in-Binary.a c.in-Binary.b c.in-Binary.field-3) in
    let parts = cut_max (2 ^ 64 - 1) _ _ c.depth-in-Binary.result c.depth-in-Binary-2.result c.max.result (read_depth (2 ^ 64 - 1) c.get-in-Binary.result.now c.in-Binary.a c.depth-in-Binary.result c.depth-in-Binary.ensures c.get-in-Binary.ensures) (read_depth (2 ^ 64 - 1) c.get-in-Binary-2.result.now c.in-Binary.b c.depth-in-Binary-2.result c.depth-in-Binary-2.ensures c.get-in-Binary-2.ensures) c.max.ensures in
    cut_one_more (2 ^ 64 - 1) _ _ c.max.result c.saturating_add-in-Binary.result is parts c.saturating_add-in-Binary.ensures

pub tree::Expr::depth-returns-in-Logical : goal.tree::Expr::depth-returns-in-Logical
tree::Expr::depth-returns-in-Logical g t c =
    let is = ap expr_depth (ap expr_of c.in-Logical.is ∙ expr_of_logical c.in-Logical.field-0 c.in-Logical.a c.in-Logical.b c.in-Logical.field-3) in
    let parts = cut_max (2 ^ 64 - 1) _ _ c.depth-in-Logical.result c.depth-in-Logical-2.result c.max-in-Logical.result (read_depth (2 ^ 64 - 1) c.get-in-Logical.result.now c.in-Logical.a c.depth-in-Logical.result c.depth-in-Logical.ensures c.get-in-Logical.ensures) (read_depth (2 ^ 64 - 1) c.get-in-Logical-2.result.now c.in-Logical.b c.depth-in-Logical-2.result c.depth-in-Logical-2.ensures c.get-in-Logical-2.ensures) c.max-in-Logical.ensures in
    cut_one_more (2 ^ 64 - 1) _ _ c.max-in-Logical.result c.saturating_add-in-Logical.result is parts c.saturating_add-in-Logical.ensures

pub tree::Expr::depth-returns-in-Conditional : goal.tree::Expr::depth-returns-in-Conditional
tree::Expr::depth-returns-in-Conditional g t c =
    let is = ap expr_depth (ap expr_of c.in-Conditional.is ∙ expr_of_conditional c.in-Conditional.c c.in-Conditional.a c.in-Conditional.b c.in-Conditional.field-3) in
    let branches = cut_max (2 ^ 64 - 1) _ _ c.depth-in-Conditional.result c.depth-in-Conditional-2.result c.max-branches.result (read_depth (2 ^ 64 - 1) c.get-in-Conditional.result.now c.in-Conditional.a c.depth-in-Conditional.result c.depth-in-Conditional.ensures c.get-in-Conditional.ensures) (read_depth (2 ^ 64 - 1) c.get-in-Conditional-2.result.now c.in-Conditional.b c.depth-in-Conditional-2.result c.depth-in-Conditional-2.ensures c.get-in-Conditional-2.ensures) c.max-branches.ensures in
    let parts = cut_max (2 ^ 64 - 1) _ _ c.depth-in-Conditional-3.result c.max-branches.result c.max-in-Conditional.result (read_depth (2 ^ 64 - 1) c.get-in-Conditional-3.result.now c.in-Conditional.c c.depth-in-Conditional-3.result c.depth-in-Conditional-3.ensures c.get-in-Conditional-3.ensures) branches c.max-in-Conditional.ensures in
    cut_one_more (2 ^ 64 - 1) _ _ c.max-in-Conditional.result c.saturating_add-in-Conditional.result is parts c.saturating_add-in-Conditional.ensures
