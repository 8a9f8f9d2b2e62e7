use Rattle.std.proofs.Common.{ap, arith}
use denote.Param.Weighed.{most, at_most}
use Rattle.syntax.specs.declared.tree.Stmt.{the_lemmas}
use Rattle.syntax.proofs.tree.Stmt.TheLaws.{the_size}
use Rattle.warnings.proofs.body.+add_stmt.Goals as goal

pub add_open-add_part-requires : goal.add_open-add_part-requires
add_open-add_part-requires g t c κs within =
    let size = simp the_lemmas at (ap (the_size g.row.A g.A.Allocator g.A.laws) c.in-Block.is) in
    let here = ap (most (the_size g.row.A g.A.Allocator g.A.laws)) c.as_slice.ensures in
    (omega (arith, size, here, c.decreases), within)

pub add_open-add_part-requires-in-Transaction : goal.add_open-add_part-requires-in-Transaction
add_open-add_part-requires-in-Transaction g t c κs within =
    let size = simp the_lemmas at (ap (the_size g.row.A g.A.Allocator g.A.laws) c.in-Transaction.is) in
    let here = ap (most (the_size g.row.A g.A.Allocator g.A.laws)) c.as_slice-in-Transaction.ensures in
    (omega (arith, size, here, c.decreases), within)

pub add_part-add_open-requires : goal.add_part-add_open-requires
add_part-add_open-requires g t c κs within =
    let size = the_size g.row.A g.A.Allocator g.A.laws in
    let below = at_most size c.args.all.now c.each.one-index c.one-item.result c.each-test.true in
    let here = ap size c.one-item.is in
    (omega (arith, below, here, c.decreases), within)

pub add_part-add_stmt-requires : goal.add_part-add_stmt-requires
add_part-add_stmt-requires g t c κs within =
    let size = the_size g.row.A g.A.Allocator g.A.laws in
    let below = at_most size c.args.all.now c.each.one-index c.one-item.result c.each-test.true in
    let here = ap size c.one-item.is in
    (omega (arith, below, here, c.decreases), within)
