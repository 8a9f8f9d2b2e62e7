use Rattle.std.proofs.Common.{arith, ap, sym, ◌∙◌}
use Rattle.std.proofs.lemmas.List.{take_all}
use denote.Param.Weighed.{most, at_most}
use Rattle.syntax.specs.declared.tree.Stmt.{the_lemmas}
use Rattle.syntax.specs.declared.tree.Stmt as S
use Rattle.syntax.proofs.tree.Stmt.TheLaws.{the_size}
use Rattle.syntax.proofs.trees.Pushes.{pushed, ap_2, ap_3, made}
use Rattle.syntax.proofs.+copy_stmt.Goals as goal

pub copy_stmt::copy_stmts-each-preserved : goal.copy_stmt::copy_stmts-each-preserved
copy_stmt::copy_stmts-each-preserved g t c =
    pushed c.args.all.now c.each.copies c.push.new.self c.each.one-index _ c.one-item.result c.each.invariant c.in_ok-push.ensures.ok c.in_ok-copy.ensures c.one-item.is c.each-test.true

pub copy_stmt::copy_stmts-returns : goal.copy_stmt::copy_stmts-returns
copy_stmt::copy_stmts-returns g t c = c.each.invariant ∙ take_all c.each.one-index c.args.all.now c.each-test.false

pub copy_stmt::copy_stmts-copy-requires : goal.copy_stmt::copy_stmts-copy-requires
copy_stmt::copy_stmts-copy-requires g t c κs within =
    let size = the_size g.row.A g.A.Allocator g.A.laws in
    let below = at_most size c.args.all.now c.each.one-index c.one-item.result c.each-test.true in
    let here = ap size c.one-item.is in
    (omega (arith, below, here, c.decreases), within)

pub tree::Stmt::copy-copy_stmts-requires : goal.tree::Stmt::copy-copy_stmts-requires
tree::Stmt::copy-copy_stmts-requires g t c κs within =
    let size = simp the_lemmas at (ap (the_size g.row.A g.A.Allocator g.A.laws) c.in-Block.is) in
    let here = ap (most (the_size g.row.A g.A.Allocator g.A.laws)) c.as_slice.ensures in
    (omega (arith, size, here, c.decreases), within)

pub tree::Stmt::copy-copy_stmts-requires-in-Transaction : goal.tree::Stmt::copy-copy_stmts-requires-in-Transaction
tree::Stmt::copy-copy_stmts-requires-in-Transaction g t c κs within =
    let size = simp the_lemmas at (ap (the_size g.row.A g.A.Allocator g.A.laws) c.in-Transaction.is) in
    let here = ap (most (the_size g.row.A g.A.Allocator g.A.laws)) c.as_slice-in-Transaction.ensures in
    (omega (arith, size, here, c.decreases), within)

pub tree::Stmt::copy-copy_boxed-requires : goal.tree::Stmt::copy-copy_boxed-requires
tree::Stmt::copy-copy_boxed-requires g t c κs within =
    let size = simp the_lemmas at (ap (the_size g.row.A g.A.Allocator g.A.laws) c.in-If.is) in
    (omega (arith, size, c.decreases), within)

pub tree::Stmt::copy-copy_boxed-requires-in-While : goal.tree::Stmt::copy-copy_boxed-requires-in-While
tree::Stmt::copy-copy_boxed-requires-in-While g t c κs within =
    let size = simp the_lemmas at (ap (the_size g.row.A g.A.Allocator g.A.laws) c.in-While.is) in
    (omega (arith, size, c.decreases), within)

pub tree::Stmt::copy-copy_boxed-requires-in-DoWhile : goal.tree::Stmt::copy-copy_boxed-requires-in-DoWhile
tree::Stmt::copy-copy_boxed-requires-in-DoWhile g t c κs within =
    let size = simp the_lemmas at (ap (the_size g.row.A g.A.Allocator g.A.laws) c.in-DoWhile.is) in
    (omega (arith, size, c.decreases), within)

pub tree::Stmt::copy-copy_boxed-requires-in-For : goal.tree::Stmt::copy-copy_boxed-requires-in-For
tree::Stmt::copy-copy_boxed-requires-in-For g t c κs within =
    let size = simp the_lemmas at (ap (the_size g.row.A g.A.Allocator g.A.laws) c.in-For.is) in
    (omega (arith, size, c.decreases), within)

pub tree::Stmt::copy-returns-in_ok-copy_stmts-in-Block : goal.tree::Stmt::copy-returns-in_ok-copy_stmts-in-Block
tree::Stmt::copy-returns-in_ok-copy_stmts-in-Block g t c =
    ap S.Block (c.in_ok-copy_stmts-in-Block.ensures ∙ c.as_slice.ensures) ∙ sym c.in-Block.is

pub tree::Stmt::copy-returns-in_ok-copy_else-in-If : goal.tree::Stmt::copy-returns-in_ok-copy_else-in-If
tree::Stmt::copy-returns-in_ok-copy_else-in-If g t c =
    let copies = c.in_ok-c-in-If.ensures in
    ap_3 S.If (made c.copy-in-If.result _ _ copies.0 c.copy-in-If.ensures) (made c.copy_boxed.result _ _ copies.1 c.copy_boxed.ensures) c.in_ok-copy_else-in-If.ensures ∙ sym c.in-If.is

pub tree::Stmt::copy-returns-in_ok-c-in-While : goal.tree::Stmt::copy-returns-in_ok-c-in-While
tree::Stmt::copy-returns-in_ok-c-in-While g t c =
    let copies = c.in_ok-c-in-While.ensures in
    ap_2 S.While (made c.copy-in-While.result _ _ copies.0 c.copy-in-While.ensures) (made c.copy_boxed-in-While.result _ _ copies.1 c.copy_boxed-in-While.ensures) ∙ sym c.in-While.is

pub tree::Stmt::copy-returns-in_ok-c-in-DoWhile : goal.tree::Stmt::copy-returns-in_ok-c-in-DoWhile
tree::Stmt::copy-returns-in_ok-c-in-DoWhile g t c =
    let copies = c.in_ok-c-in-DoWhile.ensures in
    ap_2 S.DoWhile (made c.copy_boxed-in-DoWhile.result _ _ copies.1 c.copy_boxed-in-DoWhile.ensures) (made c.copy-in-DoWhile.result _ _ copies.0 c.copy-in-DoWhile.ensures) ∙ sym c.in-DoWhile.is

pub tree::Stmt::copy-returns-in_ok-copy_boxed-in-For : goal.tree::Stmt::copy-returns-in_ok-copy_boxed-in-For
tree::Stmt::copy-returns-in_ok-copy_boxed-in-For g t c =
    ap_2 S.For c.in_ok-head-in-For.ensures c.in_ok-copy_boxed-in-For.ensures ∙ sym c.in-For.is

pub tree::Stmt::copy-returns-in_ok-body-in-Transaction : goal.tree::Stmt::copy-returns-in_ok-body-in-Transaction
tree::Stmt::copy-returns-in_ok-body-in-Transaction g t c =
    ap (λ body. S.Transaction c.in-Transaction.kind body c.in-Transaction.span) (c.in_ok-body-in-Transaction.ensures ∙ c.as_slice-in-Transaction.ensures) ∙ sym c.in-Transaction.is
