use Rattle.std.proofs.Common.{◌≡◌, ◌++◌, ◌∷◌, [], map, refl, sym, ◌∙◌, arith}
use Rattle.std.proofs.lemmas.Result.{err_from_is_err_and}
use Rattle.std.proofs.lemmas.List.{map_push}
use Rattle.lex.specs.Tokens.{toks}
use Rattle.syntax.specs.Views.{item_of}
use Rattle.parse.specs.inner.Items.{at_end, item_at}
use Rattle.parse.proofs.code.Climbing.{fails_along}
use Rattle.parse.proofs.code.Turns.{nothing_before, goes_on, fails_on, stops_at, runs_out}
use Rattle.parse.proofs.code.Loops.{all_turns, ended, ended_at}
use Rattle.parse.proofs.unit.program.Goals as goal

pub turns-init : goal.turns-init
turns-init g c = record {
  long = c.count_tokens-count.ensures.count;
  value = rw (c.count_tokens-count.ensures.count, c.count_tokens-count.ensures.all, c.new-all.ensures, all_turns c.args.tokens.now) (nothing_before _);
}

pub returns-then-is_empty : goal.returns-then-is_empty
returns-then-is_empty g c =
    let read = stops_at at_end (item_at c.args.depth) (map item_of c.turns.all) _ (toks c.turns.rest.now) _ (ended c.turns.rest.now _ (sym c.is_empty.ensures ∙ c.if-is_empty.true)) c.turns.invariant.value in
    rw read (ended_at c.turns.rest.now (map item_of c.turns.all) (sym c.is_empty.ensures ∙ c.if-is_empty.true))

pub returns-in_err-one : goal.returns-in_err-one
returns-in_err-one g c =
    let p = err_from_is_err_and c.from_residual.result c.from_residual.ensures.1 in
    rw (p.1, p.2) (fails_along c.in_err-one.field-0.0 _ _ (λ f e.
    rw (fails_on at_end (item_at c.args.depth) (map item_of c.turns.all) c.count_tokens-count.result.1 c.turns._turn (toks c.turns.rest.now) f _ c.turns-test.true (ended c.turns.rest.now _ (sym c.is_empty.ensures ∙ c.if-is_empty.false)) e c.turns.invariant.value) refl) c.in_err-one.ensures)

pub turns-preserved : goal.turns-preserved
turns-preserved g c =
    let e : map item_of c.push.new.self ≡ map item_of c.turns.all ++ item_of c.in_ok-one.one ∷ [] = rw c.in_ok-push.ensures.ok (map_push _ c.turns.all c.in_ok-one.one) in
    record {
      long = c.turns.invariant.long;
      value = rw e (goes_on at_end (item_at c.args.depth) (map item_of c.turns.all) c.count_tokens-count.result.1 c.turns._turn (toks c.turns.rest.now) (toks c.in_ok-one.after.now) (item_of c.in_ok-one.one) _ c.turns-test.true (ended c.turns.rest.now _ (sym c.is_empty.ensures ∙ c.if-is_empty.false)) c.in_ok-one.ensures c.turns.invariant.value);
    }

pub returns-then-is_empty-2 : goal.returns-then-is_empty-2
returns-then-is_empty-2 g c =
    let read = stops_at at_end (item_at c.args.depth) (map item_of c.turns.all) _ (toks c.turns.rest.now) _ (ended c.turns.rest.now _ (sym c.is_empty-2.ensures ∙ c.if-is_empty-2.true)) c.turns.invariant.value in
    rw read (ended_at c.turns.rest.now (map item_of c.turns.all) (sym c.is_empty-2.ensures ∙ c.if-is_empty-2.true))

pub returns : goal.returns
returns g c = rw (runs_out at_end (item_at c.args.depth) (map item_of c.turns.all) _ (toks c.turns.rest.now) _ (omega (arith, c.turns-test.false)) (ended c.turns.rest.now _ (sym c.is_empty-2.ensures ∙ c.if-is_empty-2.false)) c.turns.invariant.value) refl
