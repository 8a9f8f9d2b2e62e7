use Rattle.std.proofs.Common.{sym, ◌∙◌, arith}
use Rattle.std.proofs.lemmas.Result.{err_from_is_err_and}
use Rattle.lex.specs.Tokens.{toks}
use Rattle.parse.specs.inner.Items.{attribute_list, is_plain}
use Rattle.parse.proofs.code.Climbing.{fails_along}
use Rattle.parse.proofs.code.Loops.{pours_begin, pours_on, pours_fail, pours_stop, pours_out}
use Rattle.parse.proofs.attributes.attributes.Goals as goal

pub turns-init : goal.turns-init
turns-init g c = record {
  long = c.count_tokens-count.ensures.count;
  value = rw (c.count_tokens-count.ensures.count, c.count_tokens-count.ensures.all) (pours_begin is_plain attribute_list c.new-all.result c.args.tokens.now c.new-all.ensures);
}

pub returns-then-is_plain : goal.returns-then-is_plain
returns-then-is_plain g c = pours_stop is_plain attribute_list c.turns.all _ (toks c.turns.rest.now) _ (sym c.is_plain.ensures ∙ c.if-is_plain.true) c.turns.invariant.value

pub returns-in_err-more : goal.returns-in_err-more
returns-in_err-more g c =
    let p = err_from_is_err_and c.from_residual.result c.from_residual.ensures.1 in
    rw (p.1, p.2) (fails_along c.in_err-more.field-0.0 _ _ (λ f e.
    pours_fail is_plain attribute_list c.turns.all c.count_tokens-count.result.1 c.turns._turn (toks c.turns.rest.now) f _ c.turns-test.true (sym c.is_plain.ensures ∙ c.if-is_plain.false) e c.turns.invariant.value) c.in_err-more.ensures)

pub turns-preserved : goal.turns-preserved
turns-preserved g c = record {
  long = c.turns.invariant.long;
  value = rw c.in_ok-all.ensures (pours_on is_plain attribute_list c.turns.all c.count_tokens-count.result.1 c.turns._turn (toks c.turns.rest.now) (toks c.in_ok-more.after.now) c.in_ok-more.more _ c.turns-test.true (sym c.is_plain.ensures ∙ c.if-is_plain.false) c.in_ok-more.ensures c.turns.invariant.value);
}

pub returns-then-is_plain-2 : goal.returns-then-is_plain-2
returns-then-is_plain-2 g c = pours_stop is_plain attribute_list c.turns.all _ (toks c.turns.rest.now) _ (sym c.is_plain-2.ensures ∙ c.if-is_plain-2.true) c.turns.invariant.value

pub returns-else-is_plain-2 : goal.returns-else-is_plain-2
returns-else-is_plain-2 g c = pours_out is_plain attribute_list c.turns.all _ (toks c.turns.rest.now) _ (omega (arith, c.turns-test.false)) (sym c.is_plain-2.ensures ∙ c.if-is_plain-2.false) c.turns.invariant.value
