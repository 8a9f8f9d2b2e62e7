use Rattle.std.proofs.Common.{◌+◌, ◌-◌, ◌^◌, min, max, ap, refl, sym, ◌∙◌, arith}
use denote.Param.Weighed.{most, at_most}
use Rattle.syntax.specs.declared.tree.Stmt.{the_lemmas}
use Rattle.syntax.specs.Depth.{deepest, stmt_depth, block_depth}
use Rattle.syntax.specs.Views.{exprs_of, stmt_of, stmts_of}
use Rattle.syntax.proofs.tree.Stmt.TheLaws.{the_size}
use Rattle.syntax.proofs.trees.Seen.{stmt_of_block, stmt_of_print, stmt_of_transaction}
use Rattle.syntax.proofs.trees.Depths.{ord_max_is, block_some, cut_none_one, cut_more, cut_all_one, cut_one_more, block_more, block_all}
use Rattle.syntax.proofs.+depth_stmt.Goals as goal

pub depth_stmt::block_depth_of-each-init : goal.depth_stmt::block_depth_of-each-init
depth_stmt::block_depth_of-each-init g t c =
    (cut_none_one (2 ^ 64 - 1) (block_depth (stmts_of c.args.all.now)) (block_some (stmts_of c.args.all.now)) (omega arith), omega arith)

pub depth_stmt::block_depth_of-depth-requires : goal.depth_stmt::block_depth_of-depth-requires
depth_stmt::block_depth_of-depth-requires g t c κs within =
    let size = the_size g.row.A g.A.Allocator g.A.laws in
    let below = at_most size c.args.all.now c.each.one-index c.one-item.result c.each-test.true in
    let here = ap size c.one-item.is in
    (omega (arith, below, here, c.decreases), within)

pub depth_stmt::block_depth_of-each-preserved : goal.depth_stmt::block_depth_of-each-preserved
depth_stmt::block_depth_of-each-preserved g t c =
    let all = c.args.all.now in
    let here = block_more all c.each.one-index c.one-item.result c.one-item.is c.each-test.true in
    let deep = stmt_depth (stmt_of c.one-item.result) in
    let cut = cut_one_more (2 ^ 64 - 1) (deep + 1) deep c.depth.result c.saturating_add.result refl c.depth.ensures c.saturating_add.ensures in
    let new = c.max-most.ensures ∙ ord_max_is c.each.most c.saturating_add.result in
    let some = c.each.invariant.1 in
    (cut_more (2 ^ 64 - 1) c.each.most c.max-most.result c.saturating_add.result (deep + 1) _ (block_depth (stmts_of all)) (ap (λ front. max c.each.most (min front (2 ^ 64 - 1))) (sym here) ∙ c.each.invariant.0) cut new, omega arith)

pub depth_stmt::block_depth_of-returns : goal.depth_stmt::block_depth_of-returns
depth_stmt::block_depth_of-returns g t c =
    cut_all_one (2 ^ 64 - 1) c.each.most _ _ c.each.invariant (block_all c.args.all.now c.each.one-index c.each-test.false)

pub tree::Stmt::depth-block_depth_of-requires : goal.tree::Stmt::depth-block_depth_of-requires
tree::Stmt::depth-block_depth_of-requires g t c κs within =
    let size = simp the_lemmas at (ap (the_size g.row.A g.A.Allocator g.A.laws) c.in-Block.is) in
    let here = ap (most (the_size g.row.A g.A.Allocator g.A.laws)) c.as_slice.ensures in
    (omega (arith, size, here, c.decreases), within)

pub tree::Stmt::depth-block_depth_of-requires-in-Transaction : goal.tree::Stmt::depth-block_depth_of-requires-in-Transaction
tree::Stmt::depth-block_depth_of-requires-in-Transaction g t c κs within =
    let size = simp the_lemmas at (ap (the_size g.row.A g.A.Allocator g.A.laws) c.in-Transaction.is) in
    let here = ap (most (the_size g.row.A g.A.Allocator g.A.laws)) c.as_slice-in-Transaction.ensures in
    (omega (arith, size, here, c.decreases), within)

pub tree::Stmt::depth-returns-in-Block : goal.tree::Stmt::depth-returns-in-Block
tree::Stmt::depth-returns-in-Block g t c =
    let is = ap stmt_of c.in-Block.is ∙ stmt_of_block c.in-Block.body in
    c.block_depth_of.ensures ∙ ap (λ ss. min (block_depth (stmts_of ss)) (2 ^ 64 - 1)) c.as_slice.ensures ∙ sym (ap (λ s. min (stmt_depth s) (2 ^ 64 - 1)) is)

pub tree::Stmt::depth-returns-in-Print : goal.tree::Stmt::depth-returns-in-Print
tree::Stmt::depth-returns-in-Print g t c =
    let is = ap stmt_depth (ap stmt_of c.in-Print.is ∙ stmt_of_print c.in-Print.field-0 c.in-Print.field-1 c.in-Print.field-2 c.in-Print.args) in
    cut_one_more (2 ^ 64 - 1) _ _ c.deepest_of.result c.saturating_add.result is (c.deepest_of.ensures ∙ ap (λ es. min (deepest (exprs_of es)) (2 ^ 64 - 1)) c.as_slice-in-Print.ensures) c.saturating_add.ensures

pub tree::Stmt::depth-returns-in-Transaction : goal.tree::Stmt::depth-returns-in-Transaction
tree::Stmt::depth-returns-in-Transaction g t c =
    let is = ap stmt_depth (ap stmt_of c.in-Transaction.is ∙ stmt_of_transaction c.in-Transaction.field-0 c.in-Transaction.body c.in-Transaction.field-2) in
    cut_one_more (2 ^ 64 - 1) _ _ c.block_depth_of-in-Transaction.result c.saturating_add-in-Transaction.result is (c.block_depth_of-in-Transaction.ensures ∙ ap (λ ss. min (block_depth (stmts_of ss)) (2 ^ 64 - 1)) c.as_slice-in-Transaction.ensures) c.saturating_add-in-Transaction.ensures
