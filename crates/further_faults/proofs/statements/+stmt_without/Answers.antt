use Rattle.std.proofs.Common.{ap, arith}
use denote.Param.Weighed.{most, at_most}
use Rattle.syntax.specs.declared.tree.Stmt.{the_lemmas}
use Rattle.syntax.proofs.tree.Stmt.TheLaws.{the_size}
use Rattle.further_faults.proofs.statements.+stmt_without.Goals as goal

pub stmt_without-stmts_without-requires : goal.stmt_without-stmts_without-requires
stmt_without-stmts_without-requires g t c κs within =
    let size = simp the_lemmas at (ap (the_size g.row.A g.A.Allocator g.A.laws) c.in-Block.is) in
    let here = ap (most (the_size g.row.A g.A.Allocator g.A.laws)) c.as_slice.ensures in
    (omega (arith, size, here, c.decreases), within)

pub stmt_without-stmts_without-requires-in-Transaction-2 : goal.stmt_without-stmts_without-requires-in-Transaction-2
stmt_without-stmts_without-requires-in-Transaction-2 g t c κs within =
    let size = simp the_lemmas at (ap (the_size g.row.A g.A.Allocator g.A.laws) c.in-Transaction-2.is) in
    let here = ap (most (the_size g.row.A g.A.Allocator g.A.laws)) c.as_slice-in-Transaction-2.ensures in
    (omega (arith, size, here, c.decreases), within)

pub stmts_without-stmt_without-requires : goal.stmts_without-stmt_without-requires
stmts_without-stmt_without-requires g t c κs within =
    let size = the_size g.row.A g.A.Allocator g.A.laws in
    let below = at_most size c.args.all.now c.each.one-index c.one-item.result c.each-test.true in
    let here = ap size c.one-item.is in
    (omega (arith, below, here, c.decreases), within)
