use Rattle.std.proofs.Common.{◌≡◌, ◌-◌, ◌++◌, ◌∷◌, [], Ok, true, length, map, refl, sym, ap, ◌∙◌, arith, ◌⊎◌, inl, inr}
use Rattle.std.proofs.lemmas.Result.{err_from_is_err_and}
use Rattle.lex.specs.declared.token.Fixed.TheVariants.{Punctuator}
use Rattle.lex.specs.declared.token.Punctuator.TheVariants as punct
use Rattle.lex.specs.Tokens.{toks}
use Rattle.syntax.specs.Views.{expr_of, declaration_of, stmt_of}
use Rattle.syntax.proofs.trees.Seen.{stmt_of_declare, stmt_of_block, stmt_of_transaction}
use Rattle.parse.specs.declared.lead.Lead.TheVariants as lead
use Rattle.parse.specs.inner.Reading.{head, expect_span, is_next}
use Rattle.parse.specs.inner.Statements.{entry, stmt_at}
use Rattle.parse.proofs.code.Climbing.{fails_along}
use Rattle.parse.proofs.code.Within.{stmt_none, stmt_deep, stmt_start, block_none, block_deep, block_start, block_stmt_is, block_stmt_fails, simple_stmt_is, entry_is}
use Rattle.parse.proofs.code.Loops.{all_turns}
use Rattle.parse.proofs.code.Made.{made_same, fails_before}
use Rattle.parse.proofs.code.Braces.{expect_not, braced_is}
use Rattle.parse.proofs.code.Nodes.{while_stmt_none, while_stmt_unless, while_stmt_left, do_stmt_none, do_stmt_fails, do_stmt_left, if_stmt_none, if_stmt_unless, if_stmt_left, branches_fail, branches_left, no_else, else_fails, else_is, for_stmt_none, for_stmt_unless, for_stmt_left, transaction_stmt_none, kind_fails, transaction_stmt_fails, transaction_stmt_is, value_stmt_deep, value_stmt_is, entry_stmt, entry_fails}
use Rattle.parse.proofs.code.Rounds.{round_starts, round_goes_to, round_fails, round_bad, round_good}
use Rattle.parse.proofs.stmt.+statements.Goals.{block-else-turns-test, block-then-turns-test+then-is_next}
use Rattle.parse.proofs.stmt.+statements.Goals as goal

pub boxed_stmt-returns : goal.boxed_stmt-returns
boxed_stmt-returns g t c = made_same stmt_of c.box_stmt.result (stmt_at c.args.depth (toks c.args.tokens.now)) (c.box_stmt.ensures _ c.stmt.ensures)

pub else_part-returns-in_default : goal.else_part-returns-in_default
else_part-returns-in_default g t c = no_else c.args.depth (toks c.args.tokens.now) c.in_default.ensures

pub else_part-returns-in_err-other : goal.else_part-returns-in_err-other
else_part-returns-in_err-other g t c =
    let p = err_from_is_err_and c.from_residual.result c.from_residual.ensures.1 in
    rw (p.1, p.2) (fails_along c.in_err-other.field-0.0 _ _ (λ f e. else_fails c.args.depth (toks c.args.tokens.now) (toks c.in-Some.rest.now) f c.in-Some.ensures.0 c.in-Some.ensures.1 e) c.in_err-other.ensures)

pub else_part-returns : goal.else_part-returns
else_part-returns g t c = else_is c.args.depth (toks c.args.tokens.now) (toks c.in-Some.rest.now) (toks c.in_ok-other.rest.now) (stmt_of c.in_ok-other.other) c.in-Some.ensures.0 c.in-Some.ensures.1 c.in_ok-other.ensures

pub branches-returns-in_err-then : goal.branches-returns-in_err-then
branches-returns-in_err-then g t c =
    let p = err_from_is_err_and c.from_residual.result c.from_residual.ensures.1 in
    rw (p.1, p.2) (fails_along c.in_err-then.field-0.0 _ _ (λ f e. branches_fail c.args.depth (toks c.args.tokens.now) f e) c.in_err-then.ensures)

pub branches-returns : goal.branches-returns
branches-returns g t c = rw (branches_left c.args.depth (toks c.args.tokens.now) (toks c.in_ok-then.rest.now) (stmt_of c.in_ok-then.then) c.in_ok-then.ensures) (c.choice_of.ensures _ c.else_part.ensures)

pub if_stmt-returns-in_err-rest : goal.if_stmt-returns-in_err-rest
if_stmt-returns-in_err-rest g t c =
    let p = err_from_is_err_and c.from_residual.result c.from_residual.ensures.1 in
    rw (p.1, p.2) (fails_along c.in_err-rest.field-0.0 _ _ (λ f e. if_stmt_none c.args.depth (toks c.args.tokens.now) f e) c.in_err-rest.ensures)

pub if_stmt-returns-in_err-condition : goal.if_stmt-returns-in_err-condition
if_stmt-returns-in_err-condition g t c =
    let p = err_from_is_err_and c.from_residual-in_err-condition.result c.from_residual-in_err-condition.ensures.1 in
    rw (p.1, p.2) (fails_along c.in_err-condition.field-0.0 _ _ (λ f e. if_stmt_unless c.args.depth (toks c.args.tokens.now) (toks c.in_ok-rest.rest.now) f c.in_ok-rest.ensures e) c.in_err-condition.ensures)

pub if_stmt-returns : goal.if_stmt-returns
if_stmt-returns g t c = rw (if_stmt_left c.args.depth (toks c.args.tokens.now) (toks c.in_ok-rest.rest.now) (toks c.in_ok-condition.rest.now) (expr_of c.in_ok-condition.condition) c.in_ok-rest.ensures c.in_ok-condition.ensures) (c.if_of.ensures _ c.branches.ensures)

pub while_stmt-returns-in_err-rest : goal.while_stmt-returns-in_err-rest
while_stmt-returns-in_err-rest g t c =
    let p = err_from_is_err_and c.from_residual.result c.from_residual.ensures.1 in
    rw (p.1, p.2) (fails_along c.in_err-rest.field-0.0 _ _ (λ f e. while_stmt_none c.args.depth (toks c.args.tokens.now) f e) c.in_err-rest.ensures)

pub while_stmt-returns-in_err-condition : goal.while_stmt-returns-in_err-condition
while_stmt-returns-in_err-condition g t c =
    let p = err_from_is_err_and c.from_residual-in_err-condition.result c.from_residual-in_err-condition.ensures.1 in
    rw (p.1, p.2) (fails_along c.in_err-condition.field-0.0 _ _ (λ f e. while_stmt_unless c.args.depth (toks c.args.tokens.now) (toks c.in_ok-rest.rest.now) f c.in_ok-rest.ensures e) c.in_err-condition.ensures)

pub while_stmt-returns : goal.while_stmt-returns
while_stmt-returns g t c = rw (while_stmt_left c.args.depth (toks c.args.tokens.now) (toks c.in_ok-rest.rest.now) (toks c.in_ok-condition.rest.now) (expr_of c.in_ok-condition.condition) c.in_ok-rest.ensures c.in_ok-condition.ensures) (c.while_of.ensures _ c.boxed_stmt.ensures)

pub do_stmt-returns-in_err-rest : goal.do_stmt-returns-in_err-rest
do_stmt-returns-in_err-rest g t c =
    let p = err_from_is_err_and c.from_residual.result c.from_residual.ensures.1 in
    rw (p.1, p.2) (fails_along c.in_err-rest.field-0.0 _ _ (λ f e. do_stmt_none c.args.depth (toks c.args.tokens.now) f e) c.in_err-rest.ensures)

pub do_stmt-returns-in_err-body : goal.do_stmt-returns-in_err-body
do_stmt-returns-in_err-body g t c =
    let p = err_from_is_err_and c.from_residual-in_err-body.result c.from_residual-in_err-body.ensures.1 in
    rw (p.1, p.2) (fails_along c.in_err-body.field-0.0 _ _ (λ f e. do_stmt_fails c.args.depth (toks c.args.tokens.now) (toks c.in_ok-rest.rest.now) f c.in_ok-rest.ensures e) c.in_err-body.ensures)

pub do_stmt-returns : goal.do_stmt-returns
do_stmt-returns g t c = rw (do_stmt_left c.args.depth (toks c.args.tokens.now) (toks c.in_ok-rest.rest.now) (toks c.in_ok-body.rest.now) (stmt_of c.in_ok-body.body) c.in_ok-rest.ensures c.in_ok-body.ensures) c.do_of.ensures

pub for_stmt-returns-in_err-rest : goal.for_stmt-returns-in_err-rest
for_stmt-returns-in_err-rest g t c =
    let p = err_from_is_err_and c.from_residual.result c.from_residual.ensures.1 in
    rw (p.1, p.2) (fails_along c.in_err-rest.field-0.0 _ _ (λ f e. for_stmt_none c.args.depth (toks c.args.tokens.now) f e) c.in_err-rest.ensures)

pub for_stmt-returns-in_err-head : goal.for_stmt-returns-in_err-head
for_stmt-returns-in_err-head g t c =
    let p = err_from_is_err_and c.from_residual-in_err-head.result c.from_residual-in_err-head.ensures.1 in
    rw (p.1, p.2) (fails_along c.in_err-head.field-0.0 _ _ (λ f e. for_stmt_unless c.args.depth (toks c.args.tokens.now) (toks c.in_ok-rest.rest.now) f c.in_ok-rest.ensures e) c.in_err-head.ensures)

pub for_stmt-returns : goal.for_stmt-returns
for_stmt-returns g t c = rw (for_stmt_left c.args.depth (toks c.args.tokens.now) (toks c.in_ok-rest.rest.now) (toks c.in_ok-head.rest.now) _ c.in_ok-rest.ensures c.in_ok-head.ensures) (c.for_of.ensures _ c.boxed_stmt.ensures)

pub transaction_stmt-returns : goal.transaction_stmt-returns
transaction_stmt-returns g t c =
    transaction_stmt_is c.args.depth c.args.mode (toks c.args.tokens.now) (toks c.in_ok-span.rest.now) c.in_ok-span.span (ap (λ k. expect_span k (toks c.args.tokens.now)) (sym c.mode_keyword.ensures) ∙ c.in_ok-span.ensures) (sym c.is_next.ensures ∙ c.if-is_next.false) c.in_ok-kind.kind (toks c.in_ok-kind.rest.now) c.in_ok-kind.ensures (map stmt_of c.in_ok-body.body) (toks c.in_ok-body.rest.now) c.in_ok-body.ensures
    ∙ ap (λ s. Ok (s, toks c.in_ok-body.rest.now)) (sym (stmt_of_transaction c.in_ok-kind.kind c.in_ok-body.body c.in_ok-span.span))

pub transaction_stmt-returns-then-depth-eq0 : goal.transaction_stmt-returns-then-depth-eq0
transaction_stmt-returns-then-depth-eq0 g t c = value_stmt_deep c.args.depth c.args.mode (toks c.args.tokens.now) (toks c.in_ok-span.rest.now) c.in_ok-span.span (ap (λ k. expect_span k (toks c.args.tokens.now)) (sym c.mode_keyword.ensures) ∙ c.in_ok-span.ensures) (sym c.is_next.ensures ∙ c.if-is_next.true) c.if-depth-eq0.true

pub transaction_stmt-returns-then-is_next : goal.transaction_stmt-returns-then-is_next
transaction_stmt-returns-then-is_next g t c =
    rw (value_stmt_is c.args.depth c.args.mode (toks c.args.tokens.now) (toks c.in_ok-span.rest.now) c.in_ok-span.span (ap (λ k. expect_span k (toks c.args.tokens.now)) (sym c.mode_keyword.ensures) ∙ c.in_ok-span.ensures) (sym c.is_next.ensures ∙ c.if-is_next.true) (c.args.depth - 1) (omega (arith, c.if-depth-eq0.false))) c.simple_stmt.ensures

pub transaction_stmt-returns-in_err-span : goal.transaction_stmt-returns-in_err-span
transaction_stmt-returns-in_err-span g t c =
    let p = err_from_is_err_and c.from_residual.result c.from_residual.ensures.1 in
    rw (p.1, p.2) (fails_along c.in_err-span.field-0.0 _ _ (λ f e. transaction_stmt_none c.args.depth (toks c.args.tokens.now) c.args.mode f (ap (λ k. expect_span k (toks c.args.tokens.now)) (sym c.mode_keyword.ensures) ∙ e)) c.in_err-span.ensures)

pub transaction_stmt-returns-in_err-kind : goal.transaction_stmt-returns-in_err-kind
transaction_stmt-returns-in_err-kind g t c =
    let p = err_from_is_err_and c.from_residual-in_err-kind.result c.from_residual-in_err-kind.ensures.1 in
    rw (p.1, p.2) (fails_along c.in_err-kind.field-0.0 _ _ (λ f e. kind_fails c.args.depth c.args.mode (toks c.args.tokens.now) (toks c.in_ok-span.rest.now) c.in_ok-span.span (ap (λ k. expect_span k (toks c.args.tokens.now)) (sym c.mode_keyword.ensures) ∙ c.in_ok-span.ensures) (sym c.is_next.ensures ∙ c.if-is_next.false) f e) c.in_err-kind.ensures)

pub transaction_stmt-returns-in_err-body : goal.transaction_stmt-returns-in_err-body
transaction_stmt-returns-in_err-body g t c =
    let p = err_from_is_err_and c.from_residual-in_err-body.result c.from_residual-in_err-body.ensures.1 in
    rw (p.1, p.2) (fails_along c.in_err-body.field-0.0 _ _ (λ f e. transaction_stmt_fails c.args.depth c.args.mode (toks c.args.tokens.now) (toks c.in_ok-span.rest.now) c.in_ok-span.span (ap (λ k. expect_span k (toks c.args.tokens.now)) (sym c.mode_keyword.ensures) ∙ c.in_ok-span.ensures) (sym c.is_next.ensures ∙ c.if-is_next.false) c.in_ok-kind.kind (toks c.in_ok-kind.rest.now) c.in_ok-kind.ensures f e) c.in_err-body.ensures)

pub entry-returns-then-starts_type : goal.entry-returns-then-starts_type
entry-returns-then-starts_type g t c =
    entry_is c.args.depth (toks c.args.tokens.now) (toks c.in_ok-declaration.rest.now) (declaration_of c.in_ok-declaration.declaration) (sym c.starts_type.ensures ∙ c.if-starts_type.true) c.in_ok-declaration.ensures
    ∙ ap (λ s. Ok (s, toks c.in_ok-declaration.rest.now)) (sym (stmt_of_declare c.in_ok-declaration.declaration))

pub entry-returns-in_err-declaration : goal.entry-returns-in_err-declaration
entry-returns-in_err-declaration g t c =
    let p = err_from_is_err_and c.from_residual.result c.from_residual.ensures.1 in
    rw (p.1, p.2) (fails_along c.in_err-declaration.field-0.0 _ _ (λ f e. entry_fails c.args.depth (toks c.args.tokens.now) f (sym c.starts_type.ensures ∙ c.if-starts_type.true) e) c.in_err-declaration.ensures)

pub entry-returns : goal.entry-returns
entry-returns g t c = rw (entry_stmt c.args.depth (toks c.args.tokens.now) (sym c.starts_type.ensures ∙ c.if-starts_type.false)) c.stmt.ensures

pub block-returns-in_err-inner : goal.block-returns-in_err-inner
block-returns-in_err-inner g t c =
    let p = err_from_is_err_and c.from_residual.result c.from_residual.ensures.1 in
    rw (p.1, p.2) (fails_along c.in_err-inner.field-0.0 _ _ (λ f e. block_none c.args.depth (toks c.args.tokens.now) f e) c.in_err-inner.ensures)

pub block-returns-then-depth-eq0 : goal.block-returns-then-depth-eq0
block-returns-then-depth-eq0 g t c = block_deep c.args.depth (toks c.args.tokens.now) (toks c.in_ok-inner.inner.now) c.if-depth-eq0.true c.in_ok-inner.ensures

pub block-turns-init : goal.block-turns-init
block-turns-init g t c =
    let b = c.args.depth - 1 in
    record {
      long = refl;
      value = rw c.new-all.ensures (round_starts (is_next (Punctuator punct.CloseBrace)) (entry b (stmt_at b)) (Punctuator punct.CloseBrace) _ (toks c.in_ok-inner.inner.now) _ (all_turns c.in_ok-inner.inner.now)
          (sym (block_start c.args.depth b (toks c.args.tokens.now) (omega arith) ∙ braced_is (entry b (stmt_at b)) (toks c.args.tokens.now) (toks c.in_ok-inner.inner.now) c.in_ok-inner.ensures)));
    }

pub block-returns-in_err-more : goal.block-returns-in_err-more
block-returns-in_err-more g t c =
    let p = err_from_is_err_and c.from_residual-in_err-more.result c.from_residual-in_err-more.ensures.1 in
    let failed = fails_before (λ s. map stmt_of c.turns.all ++ s ∷ []) c.in_err-more.field-0.0 (entry (c.args.depth - 1) (stmt_at (c.args.depth - 1)) (toks c.turns.rest.now)) (c.in_err-more.ensures _ c.entry.ensures) in
    rw (p.1, p.2) (round_fails (is_next (Punctuator punct.CloseBrace)) (entry (c.args.depth - 1) (stmt_at (c.args.depth - 1))) (Punctuator punct.CloseBrace) _ c.in_err-more.field-0.0 (map stmt_of c.turns.all) (length c.in_ok-inner.inner.now) c.turns._turn (toks c.turns.rest.now) c.turns.invariant.value c.turns-test.true (sym c.is_next.ensures ∙ c.if-is_next.false) failed)

pub block-turns-preserved : goal.block-turns-preserved
block-turns-preserved g t c = record {
  long = refl;
  value = round_goes_to (is_next (Punctuator punct.CloseBrace)) (entry (c.args.depth - 1) (stmt_at (c.args.depth - 1))) (Punctuator punct.CloseBrace) _ (map stmt_of c.turns.all) (map stmt_of c.in_ok-more.more) (length c.in_ok-inner.inner.now) c.turns._turn (toks c.turns.rest.now) (toks c.in_ok-more.after.now) c.turns.invariant.value c.turns-test.true (sym c.is_next.ensures ∙ c.if-is_next.false) (c.in_ok-more.ensures _ c.entry.ensures);
}

pub block-returns-in_err-all : goal.block-returns-in_err-all
block-returns-in_err-all g t c =
    let p = err_from_is_err_and c.from_residual-in_err-all.result c.from_residual-in_err-all.ensures.1 in
    let way : (length c.in_ok-inner.inner.now - c.turns._turn ≡ 0) ⊎ (is_next (Punctuator punct.CloseBrace) (head (toks c.turns.rest.now)) ≡ true) =
    elim c.turns-test.branch [ block-else-turns-test w ↦ inl (omega (arith, w.turns-test.false)) | block-then-turns-test+then-is_next w ↦ inr (sym w.is_next.ensures ∙ w.if-is_next.true) ] in
    rw (p.1, p.2) (round_bad (is_next (Punctuator punct.CloseBrace)) (entry (c.args.depth - 1) (stmt_at (c.args.depth - 1))) (Punctuator punct.CloseBrace) _ (map stmt_of c.turns.all) (length c.in_ok-inner.inner.now - c.turns._turn) (toks c.turns.rest.now) (λ h. expect_not (Punctuator punct.CloseBrace) (toks c.turns.rest.now) h) c.in_err-all.field-0.0 c.turns.invariant.value way c.in_err-all.ensures.rest)

pub block-returns : goal.block-returns
block-returns g t c = rw c.in_ok-all.ensures.value (round_good (is_next (Punctuator punct.CloseBrace)) (entry (c.args.depth - 1) (stmt_at (c.args.depth - 1))) (Punctuator punct.CloseBrace) _ (map stmt_of c.turns.all) (length c.in_ok-inner.inner.now - c.turns._turn) (toks c.turns.rest.now) (λ h. expect_not (Punctuator punct.CloseBrace) (toks c.turns.rest.now) h) _ c.turns.invariant.value c.in_ok-all.ensures.rest)

pub stmt-returns-then-starts_stmt : goal.stmt-returns-then-starts_stmt
stmt-returns-then-starts_stmt g t c = stmt_deep c.args.depth _ c.if-depth-eq0.true (sym c.starts_stmt.ensures ∙ c.if-starts_stmt.true)

pub stmt-returns-then-depth-eq0 : goal.stmt-returns-then-depth-eq0
stmt-returns-then-depth-eq0 g t c = stmt_none c.args.depth _ c.if-depth-eq0.true (sym c.starts_stmt.ensures ∙ c.if-starts_stmt.false)

pub stmt-returns-in-Empty : goal.stmt-returns-in-Empty
stmt-returns-in-Empty g t c = rw (stmt_start c.args.depth (c.args.depth - 1) (toks c.args.tokens.now) lead.Empty (omega arith) (sym c.lead_at.ensures ∙ c.in-Empty.is)) c.empty_stmt.ensures

pub stmt-returns-in-Print : goal.stmt-returns-in-Print
stmt-returns-in-Print g t c = rw (stmt_start c.args.depth (c.args.depth - 1) (toks c.args.tokens.now) lead.Print (omega arith) (sym c.lead_at.ensures ∙ c.in-Print.is)) c.print_stmt.ensures

pub stmt-returns-in-If : goal.stmt-returns-in-If
stmt-returns-in-If g t c = rw (stmt_start c.args.depth (c.args.depth - 1) (toks c.args.tokens.now) lead.If (omega arith) (sym c.lead_at.ensures ∙ c.in-If.is)) c.if_stmt.ensures

pub stmt-returns-in-While : goal.stmt-returns-in-While
stmt-returns-in-While g t c = rw (stmt_start c.args.depth (c.args.depth - 1) (toks c.args.tokens.now) lead.While (omega arith) (sym c.lead_at.ensures ∙ c.in-While.is)) c.while_stmt.ensures

pub stmt-returns-in-Do : goal.stmt-returns-in-Do
stmt-returns-in-Do g t c = rw (stmt_start c.args.depth (c.args.depth - 1) (toks c.args.tokens.now) lead.Do (omega arith) (sym c.lead_at.ensures ∙ c.in-Do.is)) c.do_stmt.ensures

pub stmt-returns-in-For : goal.stmt-returns-in-For
stmt-returns-in-For g t c = rw (stmt_start c.args.depth (c.args.depth - 1) (toks c.args.tokens.now) lead.For (omega arith) (sym c.lead_at.ensures ∙ c.in-For.is)) c.for_stmt.ensures

pub stmt-returns-in-Break : goal.stmt-returns-in-Break
stmt-returns-in-Break g t c = rw (stmt_start c.args.depth (c.args.depth - 1) (toks c.args.tokens.now) lead.Break (omega arith) (sym c.lead_at.ensures ∙ c.in-Break.is)) c.break_stmt.ensures

pub stmt-returns-in-Continue : goal.stmt-returns-in-Continue
stmt-returns-in-Continue g t c = rw (stmt_start c.args.depth (c.args.depth - 1) (toks c.args.tokens.now) lead.Continue (omega arith) (sym c.lead_at.ensures ∙ c.in-Continue.is)) c.continue_stmt.ensures

pub stmt-returns-in-Return : goal.stmt-returns-in-Return
stmt-returns-in-Return g t c = rw (stmt_start c.args.depth (c.args.depth - 1) (toks c.args.tokens.now) lead.Return (omega arith) (sym c.lead_at.ensures ∙ c.in-Return.is)) c.return_stmt.ensures

pub stmt-returns-in-Cancel : goal.stmt-returns-in-Cancel
stmt-returns-in-Cancel g t c = rw (stmt_start c.args.depth (c.args.depth - 1) (toks c.args.tokens.now) lead.Cancel (omega arith) (sym c.lead_at.ensures ∙ c.in-Cancel.is)) c.cancel_stmt.ensures

pub stmt-returns-in-Transaction : goal.stmt-returns-in-Transaction
stmt-returns-in-Transaction g t c = rw (stmt_start c.args.depth (c.args.depth - 1) (toks c.args.tokens.now) (lead.Transaction c.in-Transaction.mode) (omega arith) (sym c.lead_at.ensures ∙ c.in-Transaction.is)) c.transaction_stmt.ensures

pub stmt-returns-in-Simple : goal.stmt-returns-in-Simple
stmt-returns-in-Simple g t c =
    let b = c.args.depth - 1 in
    rw (stmt_start c.args.depth b (toks c.args.tokens.now) lead.Simple (omega arith) (sym c.lead_at.ensures ∙ c.in-Simple.is) ∙ simple_stmt_is c.args.depth b (toks c.args.tokens.now) (omega arith)) c.simple_stmt.ensures

pub stmt-returns-in_err-body-in-Block : goal.stmt-returns-in_err-body-in-Block
stmt-returns-in_err-body-in-Block g t c =
    let b = c.args.depth - 1 in
    let p = err_from_is_err_and c.from_residual.result c.from_residual.ensures.1 in
    rw (p.1, p.2) (fails_along c.in_err-body-in-Block.field-0.0 _ _ (λ f e.
    stmt_start c.args.depth b (toks c.args.tokens.now) lead.Block (omega arith) (sym c.lead_at.ensures ∙ c.in-Block.is) ∙ block_stmt_fails c.args.depth b (toks c.args.tokens.now) f (omega arith) e) c.in_err-body-in-Block.ensures)

pub stmt-returns-in_ok-body-in-Block : goal.stmt-returns-in_ok-body-in-Block
stmt-returns-in_ok-body-in-Block g t c =
    let b = c.args.depth - 1 in
    stmt_start c.args.depth b (toks c.args.tokens.now) lead.Block (omega arith) (sym c.lead_at.ensures ∙ c.in-Block.is)
    ∙ block_stmt_is c.args.depth b (toks c.args.tokens.now) (toks c.in_ok-body-in-Block.rest.now) (map stmt_of c.in_ok-body-in-Block.body) (omega arith) c.in_ok-body-in-Block.ensures
    ∙ ap (λ s. Ok (s, toks c.in_ok-body-in-Block.rest.now)) (sym (stmt_of_block c.in_ok-body-in-Block.body))

-- ---- each call goes down

pub boxed_stmt-stmt-requires : goal.boxed_stmt-stmt-requires
boxed_stmt-stmt-requires g t c κs within = (omega (arith, c.decreases), (within, c.requires))

pub else_part-boxed_stmt-requires : goal.else_part-boxed_stmt-requires
else_part-boxed_stmt-requires g t c κs within = (omega (arith, c.decreases), (within, c.requires))

pub branches-boxed_stmt-requires : goal.branches-boxed_stmt-requires
branches-boxed_stmt-requires g t c κs within = (omega (arith, c.decreases), (within, c.requires))

pub branches-else_part-requires : goal.branches-else_part-requires
branches-else_part-requires g t c κs within = (omega (arith, c.decreases), (within, c.requires))

pub if_stmt-branches-requires : goal.if_stmt-branches-requires
if_stmt-branches-requires g t c κs within = (omega (arith, c.decreases), (within, c.requires))

pub while_stmt-boxed_stmt-requires : goal.while_stmt-boxed_stmt-requires
while_stmt-boxed_stmt-requires g t c κs within = (omega (arith, c.decreases), (within, c.requires))

pub do_stmt-boxed_stmt-requires : goal.do_stmt-boxed_stmt-requires
do_stmt-boxed_stmt-requires g t c κs within = (omega (arith, c.decreases), (within, c.requires))

pub for_stmt-boxed_stmt-requires : goal.for_stmt-boxed_stmt-requires
for_stmt-boxed_stmt-requires g t c κs within = (omega (arith, c.decreases), (within, c.requires))

pub transaction_stmt-block-requires : goal.transaction_stmt-block-requires
transaction_stmt-block-requires g t c κs within = (omega (arith, c.decreases), (within, omega (arith, c.requires)))

pub entry-stmt-requires : goal.entry-stmt-requires
entry-stmt-requires g t c κs within = (omega (arith, c.decreases), (within, c.requires))

pub stmt-block-requires : goal.stmt-block-requires
stmt-block-requires g t c κs within = (omega (arith, c.decreases), (within, c.requires))

pub block-entry-requires : goal.block-entry-requires
block-entry-requires g t c κs within = (omega (arith, c.decreases, c.if-depth-eq0.false), (within, omega (arith, c.requires)))

pub stmt-if_stmt-requires : goal.stmt-if_stmt-requires
stmt-if_stmt-requires g t c κs within = (omega (arith, c.decreases, c.if-depth-eq0.false), (within, omega (arith, c.requires)))

pub stmt-while_stmt-requires : goal.stmt-while_stmt-requires
stmt-while_stmt-requires g t c κs within = (omega (arith, c.decreases, c.if-depth-eq0.false), (within, omega (arith, c.requires)))

pub stmt-do_stmt-requires : goal.stmt-do_stmt-requires
stmt-do_stmt-requires g t c κs within = (omega (arith, c.decreases, c.if-depth-eq0.false), (within, omega (arith, c.requires)))

pub stmt-for_stmt-requires : goal.stmt-for_stmt-requires
stmt-for_stmt-requires g t c κs within = (omega (arith, c.decreases, c.if-depth-eq0.false), (within, omega (arith, c.requires)))

pub stmt-transaction_stmt-requires : goal.stmt-transaction_stmt-requires
stmt-transaction_stmt-requires g t c κs within = (omega (arith, c.decreases, c.if-depth-eq0.false), (within, omega (arith, c.requires, c.if-depth-eq0.false)))
