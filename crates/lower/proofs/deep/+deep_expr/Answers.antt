use Rattle.std.proofs.Common.{◌≡◌, ◌-◌, suc, ap, refl, sym, ◌∙◌, arith}
use denote.Param.Weighed.{most, at_most}
use Rattle.syntax.specs.declared.tree.Expr.{the_lemmas}
use Rattle.syntax.proofs.tree.Expr.TheLaws.{the_size}
use Rattle.syntax.proofs.trees.Seen.{expr_of_call, expr_of_in_transaction}
use Rattle.syntax.specs.Views.{expr_of, exprs_of}
use Rattle.lower.specs.Nested.{expr_too_deep, exprs_too_deep}
use Rattle.lower.proofs.Deeper.{passed, found, none_found}
use Rattle.lower.proofs.deep.+deep_expr.Goals as goal

pub deep_expr-deep_exprs-requires : goal.deep_expr-deep_exprs-requires
deep_expr-deep_exprs-requires g t c κs within =
    let size = simp the_lemmas at (ap (the_size g.row.A g.A.Allocator g.A.laws) c.in-Call.is) in
    let here = ap (most (the_size g.row.A g.A.Allocator g.A.laws)) c.as_slice.ensures in
    (omega (arith, size, here, c.decreases), within)

pub deep_exprs-deep_expr-requires : goal.deep_exprs-deep_expr-requires
deep_exprs-deep_expr-requires g t c κs within =
    let size = the_size g.row.A g.A.Allocator g.A.laws in
    let below = at_most size c.args.all.now c.each.e-index c.e-item.result c.each-test.true in
    let here = ap size c.e-item.is in
    (omega (arith, below, here, c.decreases), within)

pub deep_expr-returns-in-Call : goal.deep_expr-returns-in-Call
deep_expr-returns-in-Call g t c =
    let is = ap expr_of c.in-Call.is ∙ expr_of_call c.in-Call.field-0 c.in-Call.args c.in-Call.field-2 in
    c.deep_exprs.ensures
    ∙ ap (λ es. exprs_too_deep (exprs_of es) c.args.count) c.as_slice.ensures
    ∙ sym (ap (λ e. expr_too_deep e c.args.count) is)

pub deep_expr-returns-else-count-eq0 : goal.deep_expr-returns-else-count-eq0
deep_expr-returns-else-count-eq0 g t c =
    let is = ap expr_of c.in-InTransaction.is ∙ expr_of_in_transaction c.in-InTransaction.field-0 c.in-InTransaction.keyword c.in-InTransaction.e c.in-InTransaction.field-3 in
    let more : suc (c.args.count - 1) ≡ c.args.count = omega (arith, c.if-count-eq0.false) in
    c.deep_expr-else-count-eq0.ensures
    ∙ ap (λ e. expr_too_deep (expr_of e) (c.args.count - 1)) c.get-else-count-eq0.ensures
    ∙ sym (ap (λ e. expr_too_deep e (suc (c.args.count - 1))) is)
    ∙ ap (λ n. expr_too_deep (expr_of c.args.e.now) n) more

pub deep_exprs-returns-in-Some : goal.deep_exprs-returns-in-Some
deep_exprs-returns-in-Some g t c =
    found (λ e. expr_too_deep (expr_of e) c.args.count) (λ es. exprs_too_deep (exprs_of es) c.args.count) (λ e es. refl) c.args.all.now c.each.e-index c.e-item.result _ c.in-Some.at c.each-test.true c.e-item.is (sym c.in-Some.is ∙ c.deep_expr.ensures) c.each.invariant

pub deep_exprs-each-preserved : goal.deep_exprs-each-preserved
deep_exprs-each-preserved g t c =
    passed (λ e. expr_too_deep (expr_of e) c.args.count) (λ es. exprs_too_deep (exprs_of es) c.args.count) (λ e es. refl) c.args.all.now c.each.e-index c.e-item.result _ c.each-test.true c.e-item.is (sym c.in-None.is ∙ c.deep_expr.ensures) c.each.invariant

pub deep_exprs-returns : goal.deep_exprs-returns
deep_exprs-returns g t c =
    none_found (λ es. exprs_too_deep (exprs_of es) c.args.count) c.args.all.now c.each.e-index _ refl c.each-test.false c.each.invariant
