use Rattle.std.proofs.Common.{ap, arith}
use Rattle.syntax.specs.declared.tree.Expr.{the_lemmas}
use Rattle.syntax.proofs.tree.Expr.TheLaws.{the_size, the_within}
use Rattle.syntax.proofs.same.ExprSame.+same.Goals as goal

-- each call goes down, and what a part lends lives as long as the whole

pub same-requires-then-same : goal.same-requires-then-same
same-requires-then-same g t c κs within =
    let size = the_size g.row.A g.A.Allocator g.A.laws in
    let one = simp the_lemmas at (ap size c.in-Element-Element.is-0) in
    let other = simp the_lemmas at (ap size c.in-Element-Element.is-1) in
    (((omega (arith, one, c.decreases), (omega (arith, other, c.decreases), tt)), tt), (the_within g.row.A g.A.Allocator _ within.0, within.1))

pub same-requires-in-Parenthesized-Parenthesized : goal.same-requires-in-Parenthesized-Parenthesized
same-requires-in-Parenthesized-Parenthesized g t c κs within =
    let size = the_size g.row.A g.A.Allocator g.A.laws in
    let one = simp the_lemmas at (ap size c.in-Parenthesized-Parenthesized.is-0) in
    let other = simp the_lemmas at (ap size c.in-Parenthesized-Parenthesized.is-1) in
    (((omega (arith, one, c.decreases), (omega (arith, other, c.decreases), tt)), tt), (the_within g.row.A g.A.Allocator _ within.0, within.1))

pub same-requires-then-eq-2 : goal.same-requires-then-eq-2
same-requires-then-eq-2 g t c κs within =
    let size = the_size g.row.A g.A.Allocator g.A.laws in
    let one = simp the_lemmas at (ap size c.in-Cast-Cast.is-0) in
    let other = simp the_lemmas at (ap size c.in-Cast-Cast.is-1) in
    (((omega (arith, one, c.decreases), (omega (arith, other, c.decreases), tt)), tt), (the_within g.row.A g.A.Allocator _ within.0, within.1))

pub same-requires-then-eq-3 : goal.same-requires-then-eq-3
same-requires-then-eq-3 g t c κs within =
    let size = the_size g.row.A g.A.Allocator g.A.laws in
    let one = simp the_lemmas at (ap size c.in-Unary-Unary.is-0) in
    let other = simp the_lemmas at (ap size c.in-Unary-Unary.is-1) in
    (((omega (arith, one, c.decreases), (omega (arith, other, c.decreases), tt)), tt), (the_within g.row.A g.A.Allocator _ within.0, within.1))

pub same-requires-then-eq-4 : goal.same-requires-then-eq-4
same-requires-then-eq-4 g t c κs within =
    let size = the_size g.row.A g.A.Allocator g.A.laws in
    let one = simp the_lemmas at (ap size c.in-Binary-Binary.is-0) in
    let other = simp the_lemmas at (ap size c.in-Binary-Binary.is-1) in
    (((omega (arith, one, c.decreases), (omega (arith, other, c.decreases), tt)), tt), (the_within g.row.A g.A.Allocator _ within.0, within.1))

pub same-requires-then-same-8 : goal.same-requires-then-same-8
same-requires-then-same-8 g t c κs within =
    let size = the_size g.row.A g.A.Allocator g.A.laws in
    let one = simp the_lemmas at (ap size c.in-Binary-Binary.is-0) in
    let other = simp the_lemmas at (ap size c.in-Binary-Binary.is-1) in
    (((omega (arith, one, c.decreases), (omega (arith, other, c.decreases), tt)), tt), (the_within g.row.A g.A.Allocator _ within.0, within.1))

pub same-requires-then-eq-5 : goal.same-requires-then-eq-5
same-requires-then-eq-5 g t c κs within =
    let size = the_size g.row.A g.A.Allocator g.A.laws in
    let one = simp the_lemmas at (ap size c.in-Logical-Logical.is-0) in
    let other = simp the_lemmas at (ap size c.in-Logical-Logical.is-1) in
    (((omega (arith, one, c.decreases), (omega (arith, other, c.decreases), tt)), tt), (the_within g.row.A g.A.Allocator _ within.0, within.1))

pub same-requires-then-same-10 : goal.same-requires-then-same-10
same-requires-then-same-10 g t c κs within =
    let size = the_size g.row.A g.A.Allocator g.A.laws in
    let one = simp the_lemmas at (ap size c.in-Logical-Logical.is-0) in
    let other = simp the_lemmas at (ap size c.in-Logical-Logical.is-1) in
    (((omega (arith, one, c.decreases), (omega (arith, other, c.decreases), tt)), tt), (the_within g.row.A g.A.Allocator _ within.0, within.1))

pub same-requires-in-Conditional-Conditional : goal.same-requires-in-Conditional-Conditional
same-requires-in-Conditional-Conditional g t c κs within =
    let size = the_size g.row.A g.A.Allocator g.A.laws in
    let one = simp the_lemmas at (ap size c.in-Conditional-Conditional.is-0) in
    let other = simp the_lemmas at (ap size c.in-Conditional-Conditional.is-1) in
    (((omega (arith, one, c.decreases), (omega (arith, other, c.decreases), tt)), tt), (the_within g.row.A g.A.Allocator _ within.0, within.1))

pub same-requires-then-same-12 : goal.same-requires-then-same-12
same-requires-then-same-12 g t c κs within =
    let size = the_size g.row.A g.A.Allocator g.A.laws in
    let one = simp the_lemmas at (ap size c.in-Conditional-Conditional.is-0) in
    let other = simp the_lemmas at (ap size c.in-Conditional-Conditional.is-1) in
    (((omega (arith, one, c.decreases), (omega (arith, other, c.decreases), tt)), tt), (the_within g.row.A g.A.Allocator _ within.0, within.1))

pub same-requires-then-same-13 : goal.same-requires-then-same-13
same-requires-then-same-13 g t c κs within =
    let size = the_size g.row.A g.A.Allocator g.A.laws in
    let one = simp the_lemmas at (ap size c.in-Conditional-Conditional.is-0) in
    let other = simp the_lemmas at (ap size c.in-Conditional-Conditional.is-1) in
    (((omega (arith, one, c.decreases), (omega (arith, other, c.decreases), tt)), tt), (the_within g.row.A g.A.Allocator _ within.0, within.1))
