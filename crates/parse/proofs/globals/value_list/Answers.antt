use Rattle.std.proofs.Common.{◌≡◌, false, length, refl, sym, ◌∙◌, arith}
use Rattle.std.proofs.lemmas.Result.{err_from_is_err_and}
use Rattle.lex.specs.declared.token.Fixed.TheVariants.{Punctuator}
use Rattle.lex.specs.declared.token.Punctuator.TheVariants as punct
use Rattle.lex.specs.Tokens.{toks}
use Rattle.parse.specs.inner.Reading.{head, is_next}
use Rattle.parse.specs.inner.Items.{initialiser}
use Rattle.parse.proofs.code.Climbing.{fails_along}
use Rattle.parse.proofs.code.Loops.{trails_begin, trails_stop, trails_out, trails_last, trails_fail, trails_on}
use Rattle.parse.proofs.globals.value_list.Goals as goal

pub turns-init : goal.turns-init
turns-init g c = record {
  long = refl;
  value = trails_begin initialiser c.push.new.self c.in_ok-first.first (toks c.args.tokens.now) c.in_ok-first.inner.now (rw (c.in_ok-push.ensures.ok, c.new-all.ensures) refl) c.in_ok-first.ensures;
}

pub returns-in_default : goal.returns-in_default
returns-in_default g c = trails_stop initialiser c.turns.all _ _ (toks c.turns.rest.now) c.in_default.ensures c.turns.invariant.value

pub returns-then-is_next : goal.returns-then-is_next
returns-then-is_next g c =
    trails_last initialiser c.turns.all _ (length c.in_ok-first.inner.now) c.turns._turn (toks c.turns.rest.now) c.turns-test.true c.in-Some.ensures.0 c.turns.invariant.value (toks c.in-Some.next.now) c.in-Some.ensures.1 (sym c.is_next.ensures ∙ c.if-is_next.true)

pub returns-in_err-one : goal.returns-in_err-one
returns-in_err-one g c =
    let more : is_next (Punctuator punct.CloseBrace) (head (toks c.in-Some.next.now)) ≡ false = sym c.is_next.ensures ∙ c.if-is_next.false in
    let p = err_from_is_err_and c.from_residual-in_err-one.result c.from_residual-in_err-one.ensures.1 in
    rw (p.1, p.2) (fails_along c.in_err-one.field-0.0 _ _ (λ f e.
    trails_fail initialiser c.turns.all _ (length c.in_ok-first.inner.now) c.turns._turn (toks c.turns.rest.now) c.turns-test.true c.in-Some.ensures.0 c.turns.invariant.value (toks c.in-Some.next.now) c.in-Some.ensures.1 f more e) c.in_err-one.ensures)

pub turns-preserved : goal.turns-preserved
turns-preserved g c =
    let more : is_next (Punctuator punct.CloseBrace) (head (toks c.in-Some.next.now)) ≡ false = sym c.is_next.ensures ∙ c.if-is_next.false in
    record {
      long = refl;
      value = rw c.in_ok-push-2.ensures.ok (trails_on initialiser c.turns.all _ (length c.in_ok-first.inner.now) c.turns._turn (toks c.turns.rest.now) c.turns-test.true c.in-Some.ensures.0 c.turns.invariant.value (toks c.in-Some.next.now) c.in-Some.ensures.1 (toks c.in_ok-one.after.now) c.in_ok-one.one more c.in_ok-one.ensures);
    }

pub returns-then-is_next-2 : goal.returns-then-is_next-2
returns-then-is_next-2 g c = trails_out initialiser c.turns.all _ _ (toks c.turns.rest.now) (omega (arith, c.turns-test.false)) (sym c.is_next-2.ensures ∙ c.if-is_next-2.true) c.turns.invariant.value

pub returns : goal.returns
returns g c = trails_stop initialiser c.turns.all _ _ (toks c.turns.rest.now) (sym c.is_next-2.ensures ∙ c.if-is_next-2.false) c.turns.invariant.value
