use Rattle.std.proofs.Common.{ap, arith}
use Rattle.syntax.specs.declared.tree.Stmt.{the_lemmas}
use Rattle.syntax.proofs.tree.Stmt.TheLaws.{the_size, the_within}
use Rattle.syntax.proofs.same.StmtSame.+same.Goals as goal

-- each call goes down, and what a part lends lives as long as the whole

pub same-requires-in-Block-Block : goal.same-requires-in-Block-Block
same-requires-in-Block-Block g t c κs within =
    let size = the_size g.row.A g.A.Allocator g.A.laws in
    let one = simp the_lemmas at (ap size c.in-Block-Block.is-0) in
    let other = simp the_lemmas at (ap size c.in-Block-Block.is-1) in
    (((omega (arith, one, c.decreases), (omega (arith, other, c.decreases), tt)), tt), (the_within g.row.A g.A.Allocator _ within.0, within.1))

pub same-requires-then-same-2 : goal.same-requires-then-same-2
same-requires-then-same-2 g t c κs within =
    let size = the_size g.row.A g.A.Allocator g.A.laws in
    let one = simp the_lemmas at (ap size c.in-If-If.is-0) in
    let other = simp the_lemmas at (ap size c.in-If-If.is-1) in
    (((omega (arith, one, c.decreases), (omega (arith, other, c.decreases), tt)), tt), (the_within g.row.A g.A.Allocator _ within.0, within.1))

pub same-requires-then-same-4 : goal.same-requires-then-same-4
same-requires-then-same-4 g t c κs within =
    let size = the_size g.row.A g.A.Allocator g.A.laws in
    let one = simp the_lemmas at (ap size c.in-While-While.is-0) in
    let other = simp the_lemmas at (ap size c.in-While-While.is-1) in
    (((omega (arith, one, c.decreases), (omega (arith, other, c.decreases), tt)), tt), (the_within g.row.A g.A.Allocator _ within.0, within.1))

pub same-requires-in-DoWhile-DoWhile : goal.same-requires-in-DoWhile-DoWhile
same-requires-in-DoWhile-DoWhile g t c κs within =
    let size = the_size g.row.A g.A.Allocator g.A.laws in
    let one = simp the_lemmas at (ap size c.in-DoWhile-DoWhile.is-0) in
    let other = simp the_lemmas at (ap size c.in-DoWhile-DoWhile.is-1) in
    (((omega (arith, one, c.decreases), (omega (arith, other, c.decreases), tt)), tt), (the_within g.row.A g.A.Allocator _ within.0, within.1))

pub same-requires-then-same-6 : goal.same-requires-then-same-6
same-requires-then-same-6 g t c κs within =
    let size = the_size g.row.A g.A.Allocator g.A.laws in
    let one = simp the_lemmas at (ap size c.in-For-For.is-0) in
    let other = simp the_lemmas at (ap size c.in-For-For.is-1) in
    (((omega (arith, one, c.decreases), (omega (arith, other, c.decreases), tt)), tt), (the_within g.row.A g.A.Allocator _ within.0, within.1))

pub same-requires-then-eq-3 : goal.same-requires-then-eq-3
same-requires-then-eq-3 g t c κs within =
    let size = the_size g.row.A g.A.Allocator g.A.laws in
    let one = simp the_lemmas at (ap size c.in-Transaction-Transaction.is-0) in
    let other = simp the_lemmas at (ap size c.in-Transaction-Transaction.is-1) in
    (((omega (arith, one, c.decreases), (omega (arith, other, c.decreases), tt)), tt), (the_within g.row.A g.A.Allocator _ within.0, within.1))
