use Rattle.std.proofs.Common.{ap, arith}
use denote.Param.Weighed.{most}
use Rattle.syntax.specs.declared.tree.Expr.{the_lemmas}
use Rattle.syntax.proofs.tree.Expr.TheLaws.{the_size}
use Rattle.warnings.proofs.expr.+add_actions.Goals as goal

pub add_actions-add_arguments-requires : goal.add_actions-add_arguments-requires
add_actions-add_arguments-requires g t c κs within =
    let size = simp the_lemmas at (ap (the_size g.row.A g.A.Allocator g.A.laws) c.in-Call.is) in
    let here = ap (most (the_size g.row.A g.A.Allocator g.A.laws)) c.as_slice.ensures in
    (omega (arith, size, here, c.decreases), within)
