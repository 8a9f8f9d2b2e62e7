use Rattle.std.proofs.Common.{◌≡◌, ap, arith, sym, ◌∙◌}
use denote.Param.Weighed.{most, at_most}
use Rattle.syntax.specs.declared.tree.Expr.{the_lemmas}
use Rattle.syntax.proofs.tree.Expr.TheLaws.{the_size}
use Rattle.std.specs.Result.{IfOk}
use Rattle.syntax.specs.declared.tree.Expr as E
use Rattle.syntax.proofs.trees.Pushes.{pushed, ap_2, ap_3, made, made_both, both_made}
use Rattle.syntax.proofs.+copy.Goals as goal

pub copy::copy_exprs-each-preserved : goal.copy::copy_exprs-each-preserved
copy::copy_exprs-each-preserved g t c =
    pushed c.args.args.now c.each.copies c.push.new.self c.each.arg-index _ c.arg-item.result c.each.invariant c.in_ok-push.ensures.ok c.in_ok-copy.ensures c.arg-item.is c.each-test.true

pub copy::copy_exprs-copy-requires : goal.copy::copy_exprs-copy-requires
copy::copy_exprs-copy-requires g t c κs within =
    let size = the_size g.row.A g.A.Allocator g.A.laws in
    let below = at_most size c.args.args.now c.each.arg-index c.arg-item.result c.each-test.true in
    let here = ap size c.arg-item.is in
    (omega (arith, below, here, c.decreases), within)

pub tree::Expr::copy-copy_exprs-requires : goal.tree::Expr::copy-copy_exprs-requires
tree::Expr::copy-copy_exprs-requires g t c κs within =
    let size = simp the_lemmas at (ap (the_size g.row.A g.A.Allocator g.A.laws) c.in-Call.is) in
    let here = ap (most (the_size g.row.A g.A.Allocator g.A.laws)) c.as_slice.ensures in
    (omega (arith, size, here, c.decreases), within)

pub tree::Expr::copy-copy_boxed-requires : goal.tree::Expr::copy-copy_boxed-requires
tree::Expr::copy-copy_boxed-requires g t c κs within =
    let size = simp the_lemmas at (ap (the_size g.row.A g.A.Allocator g.A.laws) c.in-Element.is) in
    (omega (arith, size, c.decreases), within)

pub tree::Expr::copy-copy_boxed-requires-in-Parenthesized : goal.tree::Expr::copy-copy_boxed-requires-in-Parenthesized
tree::Expr::copy-copy_boxed-requires-in-Parenthesized g t c κs within =
    let size = simp the_lemmas at (ap (the_size g.row.A g.A.Allocator g.A.laws) c.in-Parenthesized.is) in
    (omega (arith, size, c.decreases), within)

pub tree::Expr::copy-copy_boxed-requires-in-Cast : goal.tree::Expr::copy-copy_boxed-requires-in-Cast
tree::Expr::copy-copy_boxed-requires-in-Cast g t c κs within =
    let size = simp the_lemmas at (ap (the_size g.row.A g.A.Allocator g.A.laws) c.in-Cast.is) in
    (omega (arith, size, c.decreases), within)

pub tree::Expr::copy-copy_boxed-requires-in-Unary : goal.tree::Expr::copy-copy_boxed-requires-in-Unary
tree::Expr::copy-copy_boxed-requires-in-Unary g t c κs within =
    let size = simp the_lemmas at (ap (the_size g.row.A g.A.Allocator g.A.laws) c.in-Unary.is) in
    (omega (arith, size, c.decreases), within)

pub tree::Expr::copy-copy_boxed-requires-in-Binary : goal.tree::Expr::copy-copy_boxed-requires-in-Binary
tree::Expr::copy-copy_boxed-requires-in-Binary g t c κs within =
    let size = simp the_lemmas at (ap (the_size g.row.A g.A.Allocator g.A.laws) c.in-Binary.is) in
    (omega (arith, size, c.decreases), within)

pub tree::Expr::copy-copy_boxed-requires-in-Binary-2 : goal.tree::Expr::copy-copy_boxed-requires-in-Binary-2
tree::Expr::copy-copy_boxed-requires-in-Binary-2 g t c κs within =
    let size = simp the_lemmas at (ap (the_size g.row.A g.A.Allocator g.A.laws) c.in-Binary.is) in
    (omega (arith, size, c.decreases), within)

pub tree::Expr::copy-copy_boxed-requires-in-Logical : goal.tree::Expr::copy-copy_boxed-requires-in-Logical
tree::Expr::copy-copy_boxed-requires-in-Logical g t c κs within =
    let size = simp the_lemmas at (ap (the_size g.row.A g.A.Allocator g.A.laws) c.in-Logical.is) in
    (omega (arith, size, c.decreases), within)

pub tree::Expr::copy-copy_boxed-requires-in-Logical-2 : goal.tree::Expr::copy-copy_boxed-requires-in-Logical-2
tree::Expr::copy-copy_boxed-requires-in-Logical-2 g t c κs within =
    let size = simp the_lemmas at (ap (the_size g.row.A g.A.Allocator g.A.laws) c.in-Logical.is) in
    (omega (arith, size, c.decreases), within)

pub tree::Expr::copy-copy_boxed-requires-in-Conditional : goal.tree::Expr::copy-copy_boxed-requires-in-Conditional
tree::Expr::copy-copy_boxed-requires-in-Conditional g t c κs within =
    let size = simp the_lemmas at (ap (the_size g.row.A g.A.Allocator g.A.laws) c.in-Conditional.is) in
    (omega (arith, size, c.decreases), within)

pub tree::Expr::copy-copy_boxed-requires-in-Conditional-2 : goal.tree::Expr::copy-copy_boxed-requires-in-Conditional-2
tree::Expr::copy-copy_boxed-requires-in-Conditional-2 g t c κs within =
    let size = simp the_lemmas at (ap (the_size g.row.A g.A.Allocator g.A.laws) c.in-Conditional.is) in
    (omega (arith, size, c.decreases), within)

pub tree::Expr::copy-copy_boxed-requires-in-Conditional-3 : goal.tree::Expr::copy-copy_boxed-requires-in-Conditional-3
tree::Expr::copy-copy_boxed-requires-in-Conditional-3 g t c κs within =
    let size = simp the_lemmas at (ap (the_size g.row.A g.A.Allocator g.A.laws) c.in-Conditional.is) in
    (omega (arith, size, c.decreases), within)

pub tree::Expr::copy-copy_boxed-requires-in-InTransaction : goal.tree::Expr::copy-copy_boxed-requires-in-InTransaction
tree::Expr::copy-copy_boxed-requires-in-InTransaction g t c κs within =
    let size = simp the_lemmas at (ap (the_size g.row.A g.A.Allocator g.A.laws) c.in-InTransaction.is) in
    (omega (arith, size, c.decreases), within)

pub tree::Expr::copy-returns-in_ok-x-in-Element : goal.tree::Expr::copy-returns-in_ok-x-in-Element
tree::Expr::copy-returns-in_ok-x-in-Element g t c =
    let copies = c.in_ok-x-in-Element.ensures in
    ap_2 (λ x i. E.Element x i c.in-Element.span) (made c.copy-in-Element.result _ _ copies.0 c.copy-in-Element.ensures) (made c.copy_boxed.result _ _ copies.1 c.copy_boxed.ensures) ∙ sym c.in-Element.is

pub tree::Expr::copy-returns-in_ok-f-in-Call : goal.tree::Expr::copy-returns-in_ok-f-in-Call
tree::Expr::copy-returns-in_ok-f-in-Call g t c =
    let copies = c.in_ok-f-in-Call.ensures in
    ap_2 (λ f es. E.Call f es c.in-Call.span) (made c.copy-in-Call.result _ _ copies.0 c.copy-in-Call.ensures) (made c.copy_exprs.result _ _ copies.1 c.copy_exprs.ensures ∙ c.as_slice.ensures) ∙ sym c.in-Call.is

pub tree::Expr::copy-returns-in_ok-a-in-Binary : goal.tree::Expr::copy-returns-in_ok-a-in-Binary
tree::Expr::copy-returns-in_ok-a-in-Binary g t c =
    let copies = c.in_ok-a-in-Binary.ensures in
    ap_2 (λ a b. E.Binary c.in-Binary.op a b c.in-Binary.span) (made c.copy_boxed-in-Binary.result _ _ copies.0 c.copy_boxed-in-Binary.ensures) (made c.copy_boxed-in-Binary-2.result _ _ copies.1 c.copy_boxed-in-Binary-2.ensures) ∙ sym c.in-Binary.is

pub tree::Expr::copy-returns-in_ok-a-in-Logical : goal.tree::Expr::copy-returns-in_ok-a-in-Logical
tree::Expr::copy-returns-in_ok-a-in-Logical g t c =
    let copies = c.in_ok-a-in-Logical.ensures in
    ap_2 (λ a b. E.Logical c.in-Logical.op a b c.in-Logical.span) (made c.copy_boxed-in-Logical.result _ _ copies.0 c.copy_boxed-in-Logical.ensures) (made c.copy_boxed-in-Logical-2.result _ _ copies.1 c.copy_boxed-in-Logical-2.ensures) ∙ sym c.in-Logical.is

pub tree::Expr::copy-returns-in_ok-c-in-Conditional : goal.tree::Expr::copy-returns-in_ok-c-in-Conditional
tree::Expr::copy-returns-in_ok-c-in-Conditional g t c =
    let one = c.in_ok-c-in-Conditional.ensures in
    let two : IfOk c.both-branches.result (λ copies. (copies.0 ≡ c.in-Conditional.a) × (copies.1 ≡ c.in-Conditional.b)) = both_made c.copy_boxed-in-Conditional.result c.copy_boxed-in-Conditional-2.result _ _ _ c.both-branches.ensures c.copy_boxed-in-Conditional.ensures c.copy_boxed-in-Conditional-2.ensures in
    let parts = made_both c.both-branches.result (c.in_ok-c-in-Conditional.a, c.in_ok-c-in-Conditional.b) _ _ one.1 two in
    ap_3 (λ x a b. E.Conditional x a b c.in-Conditional.span) (made c.copy_boxed-in-Conditional-3.result _ _ one.0 c.copy_boxed-in-Conditional-3.ensures) parts.0 parts.1 ∙ sym c.in-Conditional.is
