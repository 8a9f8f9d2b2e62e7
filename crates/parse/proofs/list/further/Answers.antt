use Rattle.std.proofs.Common.{◌≡◌, ◌++◌, ◌∷◌, ◌-◌, [], not, map, length, refl, sym, ap, ◌∙◌, arith}
use Rattle.std.proofs.lemmas.Result.{err_from_is_err_and}
use Rattle.std.proofs.lemmas.List.{map_push, length-map}
use Rattle.lex.specs.Tokens.{toks, tok}
use Rattle.lex.specs.declared.token.Fixed.TheVariants.{Punctuator}
use Rattle.lex.specs.declared.token.Punctuator.TheVariants as punct
use Rattle.parse.specs.inner.Reading.{is_other, behind}
use Rattle.parse.proofs.code.Braces.{behind_is}
use Rattle.parse.proofs.code.Climbing.{fails_along}
use Rattle.parse.proofs.code.Turns.{goes_on, fails_on, stops_at, runs_out}
use Rattle.parse.proofs.list.further.Goals as goal

pub turns-init : goal.turns-init
turns-init g c =
    let n : c.count_tokens-count.result.1 - 0 ≡ length (toks c.args.tokens.now) = omega (arith, length-map c.args.tokens.now tok, c.count_tokens-count.ensures.count) in
    record { long = c.count_tokens-count.ensures.count; value = rw (n, c.count_tokens-count.ensures.all) refl }

pub returns-in_default : goal.returns-in_default
returns-in_default g c = stops_at (is_other (Punctuator punct.Comma)) (behind (Punctuator punct.Comma) (g.E.Element.reads c.args.element.now)) (map g.E.Element.plain c.turns.all) (c.count_tokens-count.result.1 - c.turns._turn) (toks c.turns.rest.now) _ (ap not c.in_default.ensures) c.turns.invariant.value

pub returns-in_err-one : goal.returns-in_err-one
returns-in_err-one g c =
    let p = err_from_is_err_and c.from_residual.result c.from_residual.ensures.1 in
    let P = g.E.Element.reads c.args.element.now in
    rw (p.1, p.2) (fails_along c.in_err-one.field-0.0 _ _ (λ f e.
    fails_on (is_other (Punctuator punct.Comma)) (behind (Punctuator punct.Comma) P) (map g.E.Element.plain c.turns.all) c.count_tokens-count.result.1 c.turns._turn (toks c.turns.rest.now) f _ c.turns-test.true (ap not c.in-Some.ensures.0) (behind_is (Punctuator punct.Comma) P (toks c.turns.rest.now) (toks c.in-Some.inner.now) c.in-Some.ensures.1 ∙ e) c.turns.invariant.value) c.in_err-one.ensures)

pub turns-preserved : goal.turns-preserved
turns-preserved g c =
    let P = g.E.Element.reads c.args.element.now in
    let view = g.E.Element.plain in
    let e : map view c.push.new.self ≡ map view c.turns.all ++ view c.in_ok-one.one ∷ [] = rw c.in_ok-push.ensures.ok (map_push _ c.turns.all c.in_ok-one.one) in
    record {
      long = c.turns.invariant.long;
      value = rw e (goes_on (is_other (Punctuator punct.Comma)) (behind (Punctuator punct.Comma) P) (map view c.turns.all) c.count_tokens-count.result.1 c.turns._turn (toks c.turns.rest.now) (toks c.in_ok-one.after.now) (view c.in_ok-one.one) _ c.turns-test.true (ap not c.in-Some.ensures.0) (behind_is (Punctuator punct.Comma) P (toks c.turns.rest.now) (toks c.in-Some.inner.now) c.in-Some.ensures.1 ∙ c.in_ok-one.ensures) c.turns.invariant.value);
    }

pub returns-then-is_next : goal.returns-then-is_next
returns-then-is_next g c = runs_out (is_other (Punctuator punct.Comma)) (behind (Punctuator punct.Comma) (g.E.Element.reads c.args.element.now)) (map g.E.Element.plain c.turns.all) (c.count_tokens-count.result.1 - c.turns._turn) (toks c.turns.rest.now) _ (omega (arith, c.turns-test.false)) (ap not (sym c.is_next.ensures ∙ c.if-is_next.true)) c.turns.invariant.value

pub returns : goal.returns
returns g c = stops_at (is_other (Punctuator punct.Comma)) (behind (Punctuator punct.Comma) (g.E.Element.reads c.args.element.now)) (map g.E.Element.plain c.turns.all) (c.count_tokens-count.result.1 - c.turns._turn) (toks c.turns.rest.now) _ (ap not (sym c.is_next.ensures ∙ c.if-is_next.false)) c.turns.invariant.value
