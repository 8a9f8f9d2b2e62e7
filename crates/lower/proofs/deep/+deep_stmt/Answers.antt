use Rattle.std.proofs.Common.{◌≡◌, ◌-◌, suc, map, ap, refl, sym, ◌∙◌, arith}
use denote.Param.Weighed.{most, at_most}
use Rattle.syntax.specs.declared.tree.Stmt.{the_lemmas}
use Rattle.syntax.proofs.tree.Stmt.TheLaws.{the_size}
use Rattle.syntax.proofs.trees.Seen.{stmt_of_declare, stmt_of_block, stmt_of_print, stmt_of_transaction}
use Rattle.syntax.specs.Views.{exprs_of, declarator_of, stmt_of, stmts_of}
use Rattle.lower.specs.Nested.{exprs_too_deep, declarators_too_deep, too_deep, any_too_deep}
use Rattle.lower.proofs.Deeper.{passed, found, none_found}
use Rattle.lower.proofs.deep.+deep_stmt.Goals as goal

pub deep_stmt-deep_stmts-requires : goal.deep_stmt-deep_stmts-requires
deep_stmt-deep_stmts-requires g t c κs within =
    let size = simp the_lemmas at (ap (the_size g.row.A g.A.Allocator g.A.laws) c.in-Block.is) in
    let here = ap (most (the_size g.row.A g.A.Allocator g.A.laws)) c.as_slice-in-Block.ensures in
    (omega (arith, size, here, c.decreases), within)

pub deep_stmt-deep_stmts-requires-else-count-eq0 : goal.deep_stmt-deep_stmts-requires-else-count-eq0
deep_stmt-deep_stmts-requires-else-count-eq0 g t c κs within =
    let size = simp the_lemmas at (ap (the_size g.row.A g.A.Allocator g.A.laws) c.in-Transaction.is) in
    let here = ap (most (the_size g.row.A g.A.Allocator g.A.laws)) c.as_slice-else-count-eq0.ensures in
    (omega (arith, size, here, c.decreases), within)

pub deep_stmts-deep_stmt-requires : goal.deep_stmts-deep_stmt-requires
deep_stmts-deep_stmt-requires g t c κs within =
    let size = the_size g.row.A g.A.Allocator g.A.laws in
    let below = at_most size c.args.body.now c.each.s-index c.s-item.result c.each-test.true in
    let here = ap size c.s-item.is in
    (omega (arith, below, here, c.decreases), within)

pub deep_stmt-returns-in-Block : goal.deep_stmt-returns-in-Block
deep_stmt-returns-in-Block g t c =
    let is = ap stmt_of c.in-Block.is ∙ stmt_of_block c.in-Block.body in
    c.deep_stmts.ensures
    ∙ ap (λ ss. any_too_deep (stmts_of ss) c.args.count) c.as_slice-in-Block.ensures
    ∙ sym (ap (λ s. too_deep s c.args.count) is)

pub deep_stmt-returns-else-count-eq0 : goal.deep_stmt-returns-else-count-eq0
deep_stmt-returns-else-count-eq0 g t c =
    let is = ap stmt_of c.in-Transaction.is ∙ stmt_of_transaction c.in-Transaction.field-0 c.in-Transaction.body c.in-Transaction.at in
    let more : suc (c.args.count - 1) ≡ c.args.count = omega (arith, c.if-count-eq0.false) in
    c.deep_stmts-else-count-eq0.ensures
    ∙ ap (λ ss. any_too_deep (stmts_of ss) (c.args.count - 1)) c.as_slice-else-count-eq0.ensures
    ∙ sym (ap (λ s. too_deep s (suc (c.args.count - 1))) is)
    ∙ ap (λ n. too_deep (stmt_of c.args.s.now) n) more

pub deep_stmt-returns-in-Declare : goal.deep_stmt-returns-in-Declare
deep_stmt-returns-in-Declare g t c =
    let is = ap stmt_of c.in-Declare.is ∙ stmt_of_declare c.in-Declare.d in
    c.deep_declarators.ensures
    ∙ ap (λ ds. declarators_too_deep (map declarator_of ds) c.args.count) c.as_slice.ensures
    ∙ sym (ap (λ s. too_deep s c.args.count) is)

pub deep_stmt-returns-in-Print : goal.deep_stmt-returns-in-Print
deep_stmt-returns-in-Print g t c =
    let is = ap stmt_of c.in-Print.is ∙ stmt_of_print c.in-Print.field-0 c.in-Print.field-1 c.in-Print.field-2 c.in-Print.args in
    c.deep_exprs.ensures
    ∙ ap (λ es. exprs_too_deep (exprs_of es) c.args.count) c.as_slice-in-Print.ensures
    ∙ sym (ap (λ s. too_deep s c.args.count) is)

pub deep_stmts-returns-in-Some : goal.deep_stmts-returns-in-Some
deep_stmts-returns-in-Some g t c =
    found (λ s. too_deep (stmt_of s) c.args.count) (λ ss. any_too_deep (stmts_of ss) c.args.count) (λ s ss. refl) c.args.body.now c.each.s-index c.s-item.result _ c.in-Some.at c.each-test.true c.s-item.is (sym c.in-Some.is ∙ c.deep_stmt.ensures) c.each.invariant

pub deep_stmts-each-preserved : goal.deep_stmts-each-preserved
deep_stmts-each-preserved g t c =
    passed (λ s. too_deep (stmt_of s) c.args.count) (λ ss. any_too_deep (stmts_of ss) c.args.count) (λ s ss. refl) c.args.body.now c.each.s-index c.s-item.result _ c.each-test.true c.s-item.is (sym c.in-None.is ∙ c.deep_stmt.ensures) c.each.invariant

pub deep_stmts-returns : goal.deep_stmts-returns
deep_stmts-returns g t c =
    none_found (λ ss. any_too_deep (stmts_of ss) c.args.count) c.args.body.now c.each.s-index _ refl c.each-test.false c.each.invariant
