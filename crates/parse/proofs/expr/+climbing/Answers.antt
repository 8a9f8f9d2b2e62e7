use Rattle.std.proofs.Common.{◌≡◌, Ok, sym, ◌∙◌, ap, [], ◌∷◌, ◌++◌, map, refl, ◌+◌, ◌-◌, length, max, not, arith}
use Rattle.std.proofs.lemmas.Result.{err_from_is_err_and}
use Rattle.lex.specs.Tokens.{toks, tok}
use Rattle.syntax.specs.Views.{expr_of, exprs_of, name_of, exprs_from}
use Rattle.syntax.proofs.trees.Seen.{expr_of_variable}
use Rattle.parse.specs.inner.Expressions.{arguments, expr_at, whole_at, infix_node, operators}
use Rattle.parse.proofs.code.Climbing.{fails_along, loop_none, loop_deep, loop_full, turn_fails, turn_goes}
use Rattle.parse.proofs.code.ExprSteps.{opened_none, cast_none, cast_open, cast_fails, cast_is, group_none, group_open, named_none, variable_goes, element_goes, call_goes, unread, unclosed, listed_goes, behind_none, both_none, first_fails, second_fails, both_go, deepest_push, none_left, climb_start, infix_depth, conditional_alone, conditional_deep, conditional_fails, conditional_goes, whole_goes, whole_fails}
use Rattle.parse.specs.inner.Reading.{across, behind, is_other, map_parser, many_until, climb_loop}
use Rattle.std.proofs.lemmas.List.{map_push, length-map}
use Rattle.syntax.specs.Depth.{expr_depth, deepest}
use Rattle.syntax.specs.Tree.{Conditional}
use Rattle.syntax.specs.Typing.{span_of}
use Rattle.parse.proofs.code.Braces.{behind_is}
use Rattle.parse.proofs.code.Turns.{goes_on, fails_on, stops_at, runs_out}
use Rattle.lex.specs.declared.token.Fixed.TheVariants.{Punctuator}
use Rattle.lex.specs.declared.token.Punctuator.TheVariants as punct
use Rattle.parse.proofs.expr.+climbing.Goals as goal

-- ---- each call goes down

pub cast_or_group-whole-requires : goal.cast_or_group-whole-requires
cast_or_group-whole-requires g t c κs within = (omega (arith, c.decreases), (within, c.requires))

pub behind-whole-requires : goal.behind-whole-requires
behind-whole-requires g t c κs within = (omega (arith, c.decreases), (within, c.requires))

pub arguments-whole-requires : goal.arguments-whole-requires
arguments-whole-requires g t c κs within = (omega (arith, c.decreases), (within, c.requires))

pub name_expr-whole-requires : goal.name_expr-whole-requires
name_expr-whole-requires g t c κs within = (omega (arith, c.decreases), (within, c.requires))

pub name_expr-arguments-requires : goal.name_expr-arguments-requires
name_expr-arguments-requires g t c κs within = (omega (arith, c.decreases), (within, c.requires))

pub operand-name_expr-requires : goal.operand-name_expr-requires
operand-name_expr-requires g t c κs within = (omega (arith, c.decreases), (within, c.requires))

pub operand-cast_or_group-requires : goal.operand-cast_or_group-requires
operand-cast_or_group-requires g t c κs within = (omega (arith, c.decreases), (within, c.requires))

pub operand-prefix_operation-requires : goal.operand-prefix_operation-requires
operand-prefix_operation-requires g t c κs within = (omega (arith, c.decreases), (within, c.requires))

pub operand-transaction-requires : goal.operand-transaction-requires
operand-transaction-requires g t c κs within = (omega (arith, c.decreases), (within, c.requires))

pub transaction-behind-requires : goal.transaction-behind-requires
transaction-behind-requires g t c κs within = (omega (arith, c.decreases), (within, c.requires))

pub outcomes-whole-requires : goal.outcomes-whole-requires
outcomes-whole-requires g t c κs within = (omega (arith, c.decreases), (within, c.requires))

pub outcomes-behind-requires : goal.outcomes-behind-requires
outcomes-behind-requires g t c κs within = (omega (arith, c.decreases), (within, c.requires))

pub extend-whole-requires : goal.extend-whole-requires
extend-whole-requires g t c κs within = (omega (arith, c.decreases), (within, c.requires.fits))

pub conditional-outcomes-requires : goal.conditional-outcomes-requires
conditional-outcomes-requires g t c κs within = (omega (arith, c.decreases), (within, c.requires.fits))

pub climb-operand-requires : goal.climb-operand-requires
climb-operand-requires g t c κs within = (omega (arith, c.decreases, c.if-depth-eq0.false), (within, omega (arith, c.requires.fits)))

pub cast_or_group-climb-requires : goal.cast_or_group-climb-requires
cast_or_group-climb-requires g t c κs within = (omega (arith, c.decreases), (within, (c.requires, omega arith)))

pub prefix_operation-climb-requires : goal.prefix_operation-climb-requires
prefix_operation-climb-requires g t c κs within = (omega (arith, c.decreases), (within, (c.requires, omega arith)))

pub climb-climb-requires : goal.climb-climb-requires
climb-climb-requires g t c κs within =
    (omega (arith, c.decreases, c.if-depth-eq0.false), (within, (omega (arith, c.requires.fits), omega arith)))

pub whole-climb-requires : goal.whole-climb-requires
whole-climb-requires g t c κs within = (omega (arith, c.decreases), (within, (c.requires, omega arith)))

pub whole-conditional-requires : goal.whole-conditional-requires
whole-conditional-requires g t c κs within =
    (omega (arith, c.decreases, c.if-depth-eq0.false), (within, (omega (arith, c.requires), (c.in_ok-condition.ensures.deep, omega (arith, c.in_ok-condition.ensures.within, c.if-depth-eq0.false)))))

-- ---- parentheses

pub cast_or_group-returns-in_err-span-clause-value : goal.cast_or_group-returns-in_err-span-clause-value
cast_or_group-returns-in_err-span-clause-value g t c =
    let p = err_from_is_err_and c.from_residual.result c.from_residual.ensures.1 in
    rw (p.1, p.2) (fails_along c.in_err-span.field-0.0 _ _ (opened_none (whole_at c.args.depth) (expr_at c.args.depth 11) (toks c.args.tokens.now)) c.in_err-span.ensures)

pub cast_or_group-returns-in_err-to-clause-value : goal.cast_or_group-returns-in_err-to-clause-value
cast_or_group-returns-in_err-to-clause-value g t c =
    let p = err_from_is_err_and c.from_residual-in_err-to.result c.from_residual-in_err-to.ensures.1 in
    rw (p.1, p.2) (fails_along c.in_err-to.field-0.0 _ _ (cast_none (whole_at c.args.depth) (expr_at c.args.depth 11) (toks c.args.tokens.now) c.in_ok-span.span (toks c.in_ok-span.rest.now) c.in_ok-span.ensures (sym c.starts_type.ensures ∙ c.if-starts_type.true)) c.in_err-to.ensures)

pub cast_or_group-returns-in_err-rest-clause-value : goal.cast_or_group-returns-in_err-rest-clause-value
cast_or_group-returns-in_err-rest-clause-value g t c =
    let p = err_from_is_err_and c.from_residual-in_err-rest.result c.from_residual-in_err-rest.ensures.1 in
    rw (p.1, p.2) (fails_along c.in_err-rest.field-0.0 _ _ (cast_open (whole_at c.args.depth) (expr_at c.args.depth 11) (toks c.args.tokens.now) c.in_ok-span.span (toks c.in_ok-span.rest.now) c.in_ok-span.ensures (sym c.starts_type.ensures ∙ c.if-starts_type.true) c.in_ok-to.to (toks c.in_ok-to.rest.now) c.in_ok-to.ensures) c.in_err-rest.ensures)

pub cast_or_group-returns-in_err-inner-clause-value : goal.cast_or_group-returns-in_err-inner-clause-value
cast_or_group-returns-in_err-inner-clause-value g t c =
    let p = err_from_is_err_and c.from_residual-in_err-inner.result c.from_residual-in_err-inner.ensures.1 in
    rw (p.1, p.2) (fails_along c.in_err-inner.field-0.0 _ _ (cast_fails (whole_at c.args.depth) (expr_at c.args.depth 11) (toks c.args.tokens.now) c.in_ok-span.span (toks c.in_ok-span.rest.now) c.in_ok-span.ensures (sym c.starts_type.ensures ∙ c.if-starts_type.true) c.in_ok-to.to (toks c.in_ok-to.rest.now) c.in_ok-to.ensures (toks c.in_ok-rest.rest.now) c.in_ok-rest.ensures) c.in_err-inner.ensures.value)

pub cast_or_group-returns-then-starts_type-clause-value : goal.cast_or_group-returns-then-starts_type-clause-value
cast_or_group-returns-then-starts_type-clause-value g t c =
    cast_is (whole_at c.args.depth) (expr_at c.args.depth 11) (toks c.args.tokens.now) c.in_ok-span.span (toks c.in_ok-span.rest.now) c.in_ok-span.ensures (sym c.starts_type.ensures ∙ c.if-starts_type.true) c.in_ok-to.to (toks c.in_ok-to.rest.now) c.in_ok-to.ensures (toks c.in_ok-rest.rest.now) c.in_ok-rest.ensures (expr_of c.in_ok-inner.inner) (toks c.in_ok-inner.rest.now) c.in_ok-inner.ensures.value
    ∙ ap (λ e. Ok (e, toks c.in_ok-inner.rest.now)) (sym c.in_ok-cast.ensures)

pub cast_or_group-returns-in_err-inner-2-clause-value : goal.cast_or_group-returns-in_err-inner-2-clause-value
cast_or_group-returns-in_err-inner-2-clause-value g t c =
    let p = err_from_is_err_and c.from_residual-in_err-inner-2.result c.from_residual-in_err-inner-2.ensures.1 in
    rw (p.1, p.2) (fails_along c.in_err-inner-2.field-0.0 _ _ (group_none (whole_at c.args.depth) (expr_at c.args.depth 11) (toks c.args.tokens.now) c.in_ok-span.span (toks c.in_ok-span.rest.now) c.in_ok-span.ensures (sym c.starts_type.ensures ∙ c.if-starts_type.false)) c.in_err-inner-2.ensures.value)

pub cast_or_group-returns-in_err-inner-3-clause-value : goal.cast_or_group-returns-in_err-inner-3-clause-value
cast_or_group-returns-in_err-inner-3-clause-value g t c =
    let p = err_from_is_err_and c.from_residual-in_err-inner-3.result c.from_residual-in_err-inner-3.ensures.1 in
    rw (p.1, p.2) (fails_along c.in_err-inner-3.field-0.0 _ _ (group_open (whole_at c.args.depth) (expr_at c.args.depth 11) (toks c.args.tokens.now) c.in_ok-span.span (toks c.in_ok-span.rest.now) c.in_ok-span.ensures (sym c.starts_type.ensures ∙ c.if-starts_type.false) (expr_of c.in_ok-inner-2.inner) (toks c.in_ok-inner-2.rest.now) c.in_ok-inner-2.ensures.value) c.in_err-inner-3.ensures.rest)

-- ---- a name, and what may follow it

pub name_expr-returns-in_err-name-clause-value : goal.name_expr-returns-in_err-name-clause-value
name_expr-returns-in_err-name-clause-value g t c =
    let p = err_from_is_err_and c.from_residual.result c.from_residual.ensures.1 in
    rw (p.1, p.2) (fails_along c.in_err-name.field-0.0 _ _ (named_none (whole_at c.args.depth) (expr_at c.args.depth 11) (toks c.args.tokens.now)) c.in_err-name.ensures)

pub name_expr-returns-in_err-index-clause-value : goal.name_expr-returns-in_err-index-clause-value
name_expr-returns-in_err-index-clause-value g t c =
    let p = err_from_is_err_and c.from_residual-in_err-index.result c.from_residual-in_err-index.ensures.1 in
    rw (p.1, p.2) (fails_along c.in_err-index.field-0.0 _ _ (λ f e. element_goes (whole_at c.args.depth) (expr_at c.args.depth 11) (toks c.args.tokens.now) (toks c.in_ok-name.rest.now) (name_of c.in_ok-name.name) c.in_ok-name.ensures c.in-Some.ensures.0 ∙ unread (Punctuator punct.OpenBracket) (Punctuator punct.CloseBracket) (whole_at c.args.depth) _ (toks c.in_ok-name.rest.now) (toks c.in-Some.rest.now) f c.in-Some.ensures.1 e) c.in_err-index.ensures.value)

pub name_expr-returns-in_err-index-2-clause-value : goal.name_expr-returns-in_err-index-2-clause-value
name_expr-returns-in_err-index-2-clause-value g t c =
    let p = err_from_is_err_and c.from_residual-in_err-index-2.result c.from_residual-in_err-index-2.ensures.1 in
    rw (p.1, p.2) (fails_along c.in_err-index-2.field-0.0 _ _ (λ f e. element_goes (whole_at c.args.depth) (expr_at c.args.depth 11) (toks c.args.tokens.now) (toks c.in_ok-name.rest.now) (name_of c.in_ok-name.name) c.in_ok-name.ensures c.in-Some.ensures.0 ∙ unclosed (Punctuator punct.OpenBracket) (Punctuator punct.CloseBracket) (whole_at c.args.depth) _ (toks c.in_ok-name.rest.now) (toks c.in-Some.rest.now) (toks c.in_ok-index.rest.now) _ f c.in-Some.ensures.1 c.in_ok-index.ensures.value e) c.in_err-index-2.ensures.rest)

pub name_expr-returns-in_err-args-clause-value : goal.name_expr-returns-in_err-args-clause-value
name_expr-returns-in_err-args-clause-value g t c =
    let p = err_from_is_err_and c.from_residual-in_err-args.result c.from_residual-in_err-args.ensures.1 in
    rw (p.1, p.2) (fails_along c.in_err-args.field-0.0 _ _ (λ f e. call_goes (whole_at c.args.depth) (expr_at c.args.depth 11) (toks c.args.tokens.now) (toks c.in_ok-name.rest.now) (name_of c.in_ok-name.name) c.in_ok-name.ensures c.in_default.ensures c.in-Some-eat.ensures.0 ∙ unread (Punctuator punct.OpenParen) (Punctuator punct.CloseParen) (arguments (whole_at c.args.depth) (expr_at c.args.depth 11)) _ (toks c.in_ok-name.rest.now) (toks c.in-Some-eat.rest.now) f c.in-Some-eat.ensures.1 e) c.in_err-args.ensures.value)

pub name_expr-returns-in_err-args-2-clause-value : goal.name_expr-returns-in_err-args-2-clause-value
name_expr-returns-in_err-args-2-clause-value g t c =
    let p = err_from_is_err_and c.from_residual-in_err-args-2.result c.from_residual-in_err-args-2.ensures.1 in
    rw (p.1, p.2) (fails_along c.in_err-args-2.field-0.0 _ _ (λ f e.
    call_goes (whole_at c.args.depth) (expr_at c.args.depth 11) (toks c.args.tokens.now) (toks c.in_ok-name.rest.now) (name_of c.in_ok-name.name) c.in_ok-name.ensures c.in_default.ensures c.in-Some-eat.ensures.0
    ∙ unclosed (Punctuator punct.OpenParen) (Punctuator punct.CloseParen) (arguments (whole_at c.args.depth) (expr_at c.args.depth 11)) _ (toks c.in_ok-name.rest.now) (toks c.in-Some-eat.rest.now) (toks c.in_ok-args.rest.now) _ f c.in-Some-eat.ensures.1 c.in_ok-args.ensures.value e) c.in_err-args-2.ensures.rest)

pub name_expr-returns-clause-value : goal.name_expr-returns-clause-value
name_expr-returns-clause-value g t c =
    variable_goes (whole_at c.args.depth) (expr_at c.args.depth 11) (toks c.args.tokens.now) (toks c.in_ok-name.rest.now) (name_of c.in_ok-name.name) c.in_ok-name.ensures c.in_default.ensures c.in_default-eat.ensures
    ∙ ap (λ e. Ok (e, toks c.in_ok-name.rest.now)) (sym (expr_of_variable c.in_ok-name.name))

-- ---- arguments

pub arguments-returns-clause-value : goal.arguments-returns-clause-value
arguments-returns-clause-value g t c =
    let e : map expr_of c.push.new.self ≡ expr_of c.in_ok-first.first ∷ [] = rw (c.in_ok-push.ensures.ok, c.new-args.ensures) refl in
    let start : arguments (whole_at c.args.depth) (expr_at c.args.depth 11) (toks c.args.tokens.now) ≡ map_parser (λ es. map expr_of c.push.new.self ++ es) (many_until (is_other (Punctuator punct.Comma)) (behind (Punctuator punct.Comma) (whole_at c.args.depth))) (toks c.in_ok-first.rest.now) =
    rw (sym c.is_next.ensures ∙ c.if-is_next.false, e) (listed_goes (whole_at c.args.depth) (many_until (is_other (Punctuator punct.Comma)) (behind (Punctuator punct.Comma) (whole_at c.args.depth))) (toks c.args.tokens.now) (toks c.in_ok-first.rest.now) (expr_of c.in_ok-first.first) c.in_ok-first.ensures.value) in
    rw start c.extend.ensures.value

-- ---- behind a punctuator

pub behind-returns-in_err-rest-clause-value : goal.behind-returns-in_err-rest-clause-value
behind-returns-in_err-rest-clause-value g t c =
    let p = err_from_is_err_and c.from_residual.result c.from_residual.ensures.1 in
    rw (p.1, p.2) (fails_along c.in_err-rest.field-0.0 _ _ (λ f e. behind_none c.args.fixed (whole_at c.args.depth) (toks c.args.tokens.now) f e) c.in_err-rest.ensures)

pub behind-returns-clause-value : goal.behind-returns-clause-value
behind-returns-clause-value g t c = rw (behind_is c.args.fixed (whole_at c.args.depth) (toks c.args.tokens.now) (toks c.in_ok-rest.rest.now) c.in_ok-rest.ensures) c.whole.ensures.value

-- ---- further arguments

pub extend-turns-init : goal.extend-turns-init
extend-turns-init g t c =
    let n : c.count_tokens-count.result.1 - 0 ≡ length (toks c.args.tokens.now) = omega (arith, length-map c.args.tokens.now tok, c.count_tokens-count.ensures.count) in
    record { long = c.count_tokens-count.ensures.count; within = c.requires.shallow; deep = c.requires.measured; value = rw (n, c.count_tokens-count.ensures.all) refl }

pub extend-returns-in_default-clause-value : goal.extend-returns-in_default-clause-value
extend-returns-in_default-clause-value g t c = stops_at (is_other (Punctuator punct.Comma)) (behind (Punctuator punct.Comma) (whole_at c.args.depth)) (map expr_of c.turns.all) (c.count_tokens-count.result.1 - c.turns._turn) (toks c.turns.rest.now) _ (ap not c.in_default.ensures) c.turns.invariant.value

pub extend-returns-in_err-one-clause-value : goal.extend-returns-in_err-one-clause-value
extend-returns-in_err-one-clause-value g t c =
    let p = err_from_is_err_and c.from_residual.result c.from_residual.ensures.1 in
    rw (p.1, p.2) (fails_along c.in_err-one.field-0.0 _ _ (λ f e.
    fails_on (is_other (Punctuator punct.Comma)) (behind (Punctuator punct.Comma) (whole_at c.args.depth)) (map expr_of c.turns.all) c.count_tokens-count.result.1 c.turns._turn (toks c.turns.rest.now) f _ c.turns-test.true (ap not c.in-Some.ensures.0) (behind_is (Punctuator punct.Comma) (whole_at c.args.depth) (toks c.turns.rest.now) (toks c.in-Some.inner.now) c.in-Some.ensures.1 ∙ e) c.turns.invariant.value) c.in_err-one.ensures.value)

pub extend-turns-preserved : goal.extend-turns-preserved
extend-turns-preserved g t c =
    let e : map expr_of c.push.new.self ≡ map expr_of c.turns.all ++ expr_of c.in_ok-one.one ∷ [] = rw c.in_ok-push.ensures.ok (map_push _ c.turns.all c.in_ok-one.one) in
    let pushed : deepest (exprs_of c.push.new.self) ≡ max (deepest (exprs_of c.turns.all)) (expr_depth (expr_of c.in_ok-one.one)) = ap (λ es. deepest (exprs_from es)) e ∙ deepest_push (map expr_of c.turns.all) (expr_of c.in_ok-one.one) in
    let most : c.max-most.result ≡ max c.turns.most c.in_ok-one.one_deep = c.max-most.ensures in
    record {
      long = c.turns.invariant.long;
      within = omega (arith, most, c.turns.invariant.within, c.in_ok-one.ensures.within);
      deep = omega (arith, most, pushed, c.turns.invariant.deep, c.in_ok-one.ensures.deep);
      value = rw e (goes_on (is_other (Punctuator punct.Comma)) (behind (Punctuator punct.Comma) (whole_at c.args.depth)) (map expr_of c.turns.all) c.count_tokens-count.result.1 c.turns._turn (toks c.turns.rest.now) (toks c.in_ok-one.after.now) (expr_of c.in_ok-one.one) _ c.turns-test.true (ap not c.in-Some.ensures.0) (behind_is (Punctuator punct.Comma) (whole_at c.args.depth) (toks c.turns.rest.now) (toks c.in-Some.inner.now) c.in-Some.ensures.1 ∙ c.in_ok-one.ensures.value) c.turns.invariant.value);
    }

pub extend-returns-then-is_next-clause-value : goal.extend-returns-then-is_next-clause-value
extend-returns-then-is_next-clause-value g t c = runs_out (is_other (Punctuator punct.Comma)) (behind (Punctuator punct.Comma) (whole_at c.args.depth)) (map expr_of c.turns.all) (c.count_tokens-count.result.1 - c.turns._turn) (toks c.turns.rest.now) _ (omega (arith, c.turns-test.false)) (ap not (sym c.is_next.ensures ∙ c.if-is_next.true)) c.turns.invariant.value

pub extend-returns-clause-value : goal.extend-returns-clause-value
extend-returns-clause-value g t c = stops_at (is_other (Punctuator punct.Comma)) (behind (Punctuator punct.Comma) (whole_at c.args.depth)) (map expr_of c.turns.all) (c.count_tokens-count.result.1 - c.turns._turn) (toks c.turns.rest.now) _ (ap not (sym c.is_next.ensures ∙ c.if-is_next.false)) c.turns.invariant.value

-- ---- operators

pub climb-returns-then-depth-eq0-clause-value : goal.climb-returns-then-depth-eq0-clause-value
climb-returns-then-depth-eq0-clause-value g t c = rw (none_left c.args.depth c.args.min (toks c.args.tokens.now) c.if-depth-eq0.true) c.too_deep.ensures

pub climb-returns-in_err-left-clause-value : goal.climb-returns-in_err-left-clause-value
climb-returns-in_err-left-clause-value g t c =
    let p = err_from_is_err_and c.from_residual.result c.from_residual.ensures.1 in
    rw (p.1, p.2) (fails_along c.in_err-left.field-0.0 _ _ (λ f e. climb_start c.args.depth (c.args.depth - 1) c.args.min (toks c.args.tokens.now) (omega arith) c.requires.operators ∙ rw e refl) c.in_err-left.ensures.value)

pub climb-turns-init : goal.climb-turns-init
climb-turns-init g t c = record {
  below = omega arith;
  within = omega (arith, c.in_ok-left.ensures.within);
  deep = c.in_ok-left.ensures.deep;
  value =
      let n : c.args.depth - 0 ≡ c.args.depth = omega arith in
      rw n (sym (climb_start c.args.depth (c.args.depth - 1) c.args.min (toks c.args.tokens.now) (omega arith) c.requires.operators ∙ rw (c.in_ok-left.ensures.value) refl));
}

pub climb-returns-in_default-clause-value : goal.climb-returns-in_default-clause-value
climb-returns-in_default-clause-value g t c = sym c.turns.invariant.value ∙ loop_none operators (expr_at (c.args.depth - 1)) c.args.min c.args.depth _ _ _ c.in_default.ensures

pub climb-returns-then-deep-depth-clause-value : goal.climb-returns-then-deep-depth-clause-value
climb-returns-then-deep-depth-clause-value g t c = sym c.turns.invariant.value ∙ loop_deep operators (expr_at (c.args.depth - 1)) c.args.min c.args.depth _ _ _ _ c.in-Some.ensures (omega (arith, c.turns.invariant.deep))

pub climb-returns-in-Err-clause-value : goal.climb-returns-in-Err-clause-value
climb-returns-in-Err-clause-value g t c =
    fails_along c.in-Err.failure _ _ (λ f e. turn_fails operators (expr_at (c.args.depth - 1)) c.args.min c.args.depth c.turns._turn (c.precedence.result + 1) (expr_of c.turns.left) _ (c.in-Some.op, toks c.in-Some.after.now) f _ c.turns-test.true (ap (λ n. n + 1) c.precedence.ensures) c.in-Some.ensures (omega (arith, c.turns.invariant.deep)) c.turns.invariant.value e) c.in-Err.ensures.value

pub climb-turns-preserved : goal.climb-turns-preserved
climb-turns-preserved g t c =
    let op = c.in-Some.op in
    let left = expr_of c.turns.left in
    let right = expr_of c.in-Ok.right in
    let v : expr_of c.in_ok-left-in-Ok.left ≡ infix_node op left right = c.in_ok-left-in-Ok.ensures in
    let most : c.max-deep.result ≡ max c.turns.deep c.in-Ok.right_deep = c.max-deep.ensures in
    let left_deep : c.turns.deep ≡ expr_depth left = c.turns.invariant.deep in
    let right_deep : c.in-Ok.right_deep ≡ expr_depth right = c.in-Ok.ensures.deep in
    let deep : c.max-deep.result + 1 ≡ max (expr_depth left) (expr_depth right) + 1 = omega arith in
    record {
      below = omega arith;
      within = omega (arith, c.in-Ok.ensures.within);
      deep = deep ∙ sym (infix_depth op left right) ∙ ap expr_depth (sym v);
      value =
          ap (λ e. climb_loop operators (expr_at (c.args.depth - 1)) c.args.min c.args.depth (c.args.depth - (c.turns._turn + 1)) e (toks c.in-Ok.after.now)) v
          ∙ turn_goes operators (expr_at (c.args.depth - 1)) c.args.min c.args.depth c.turns._turn (c.precedence.result + 1) left right _ _ (op, toks c.in-Some.after.now) _ c.turns-test.true (ap (λ n. n + 1) c.precedence.ensures) c.in-Some.ensures (omega (arith, c.turns.invariant.deep)) c.turns.invariant.value c.in-Ok.ensures.value;
    }

pub climb-returns-in-Some-next_op-clause-value : goal.climb-returns-in-Some-next_op-clause-value
climb-returns-in-Some-next_op-clause-value g t c = sym c.turns.invariant.value ∙ loop_full operators (expr_at (c.args.depth - 1)) c.args.min c.args.depth _ _ _ _ (omega arith) c.in-Some-next_op.ensures

pub climb-returns-in-None-clause-value : goal.climb-returns-in-None-clause-value
climb-returns-in-None-clause-value g t c = sym c.turns.invariant.value ∙ loop_none operators (expr_at (c.args.depth - 1)) c.args.min c.args.depth _ _ _ c.in-None.ensures

-- ---- what a condition chooses from

pub outcomes-returns-in_err-rest-clause-value : goal.outcomes-returns-in_err-rest-clause-value
outcomes-returns-in_err-rest-clause-value g t c =
    let p = err_from_is_err_and c.from_residual.result c.from_residual.ensures.1 in
    rw (p.1, p.2) (fails_along c.in_err-rest.field-0.0 _ _ (both_none (Punctuator punct.Question) (whole_at c.args.depth) (behind (Punctuator punct.Colon) (whole_at c.args.depth)) (toks c.args.tokens.now)) c.in_err-rest.ensures)

pub outcomes-returns-in_err-then-clause-value : goal.outcomes-returns-in_err-then-clause-value
outcomes-returns-in_err-then-clause-value g t c =
    let p = err_from_is_err_and c.from_residual-in_err-then.result c.from_residual-in_err-then.ensures.1 in
    rw (p.1, p.2) (fails_along c.in_err-then.field-0.0 _ _ (first_fails (Punctuator punct.Question) (whole_at c.args.depth) (behind (Punctuator punct.Colon) (whole_at c.args.depth)) (toks c.args.tokens.now) (toks c.in_ok-rest.rest.now) c.in_ok-rest.ensures) c.in_err-then.ensures.value)

pub outcomes-returns-in-Err-clause-value : goal.outcomes-returns-in-Err-clause-value
outcomes-returns-in-Err-clause-value g t c =
    fails_along c.in-Err.failure _ _ (λ f e. second_fails (Punctuator punct.Question) (whole_at c.args.depth) (behind (Punctuator punct.Colon) (whole_at c.args.depth)) (toks c.args.tokens.now) (toks c.in_ok-rest.rest.now) c.in_ok-rest.ensures (toks c.in_ok-then.rest.now) (expr_of c.in_ok-then.then) f c.in_ok-then.ensures.value e) c.in-Err.ensures.value

pub outcomes-returns-in-Ok-clause-value : goal.outcomes-returns-in-Ok-clause-value
outcomes-returns-in-Ok-clause-value g t c =
    both_go (Punctuator punct.Question) (whole_at c.args.depth) (behind (Punctuator punct.Colon) (whole_at c.args.depth)) (toks c.args.tokens.now) (toks c.in_ok-rest.rest.now) c.in_ok-rest.ensures (toks c.in_ok-then.rest.now) (toks c.in-Ok.rest.now) (expr_of c.in_ok-then.then) (expr_of c.in-Ok.other) c.in_ok-then.ensures.value c.in-Ok.ensures.value

pub conditional-returns-then-not-is_next-clause-value : goal.conditional-returns-then-not-is_next-clause-value
conditional-returns-then-not-is_next-clause-value g t c = conditional_alone (whole_at c.args.depth) c.args.depth (expr_of c.args.condition) (toks c.args.tokens.now) (sym c.is_next.ensures ∙ c.if-not-is_next.true)

pub conditional-returns-then-deep-depth-clause-value : goal.conditional-returns-then-deep-depth-clause-value
conditional-returns-then-deep-depth-clause-value g t c = conditional_deep (whole_at c.args.depth) c.args.depth (expr_of c.args.condition) (toks c.args.tokens.now) (sym c.is_next.ensures ∙ c.if-not-is_next.false) (omega (arith, c.requires.measured, c.if-deep-depth.true))

pub conditional-returns-in-Err-clause-value : goal.conditional-returns-in-Err-clause-value
conditional-returns-in-Err-clause-value g t c =
    fails_along c.in-Err.failure _ _ (conditional_fails (whole_at c.args.depth) c.args.depth (expr_of c.args.condition) (toks c.args.tokens.now) (sym c.is_next.ensures ∙ c.if-not-is_next.false) (omega (arith, c.requires.measured, c.if-deep-depth.false))) c.in-Err.ensures.value

pub conditional-returns-in_ok-whole-in-Ok-clause-value : goal.conditional-returns-in_ok-whole-in-Ok-clause-value
conditional-returns-in_ok-whole-in-Ok-clause-value g t c =
    let v : expr_of c.in_ok-whole-in-Ok.whole ≡ Conditional (expr_of c.args.condition) (expr_of c.in-Ok.then) (expr_of c.in-Ok.other) (across (span_of (expr_of c.args.condition)) (span_of (expr_of c.in-Ok.other))) = c.in_ok-whole-in-Ok.ensures in
    conditional_goes (whole_at c.args.depth) c.args.depth (expr_of c.args.condition) (toks c.args.tokens.now) (sym c.is_next.ensures ∙ c.if-not-is_next.false) (omega (arith, c.requires.measured, c.if-deep-depth.false)) (expr_of c.in-Ok.then) (expr_of c.in-Ok.other) (toks c.in-Ok.rest.now) c.in-Ok.ensures.value
    ∙ ap (λ e. Ok (e, toks c.in-Ok.rest.now)) (sym v)

pub conditional-returns-in_ok-whole-in-Ok-clause-deep : goal.conditional-returns-in_ok-whole-in-Ok-clause-deep
conditional-returns-in_ok-whole-in-Ok-clause-deep g t c =
    let v : expr_of c.in_ok-whole-in-Ok.whole ≡ Conditional (expr_of c.args.condition) (expr_of c.in-Ok.then) (expr_of c.in-Ok.other) (across (span_of (expr_of c.args.condition)) (span_of (expr_of c.in-Ok.other))) = c.in_ok-whole-in-Ok.ensures in
    let d : expr_depth (expr_of c.in_ok-whole-in-Ok.whole) ≡ max (expr_depth (expr_of c.args.condition)) (max (expr_depth (expr_of c.in-Ok.then)) (expr_depth (expr_of c.in-Ok.other))) + 1 = ap expr_depth v in
    omega (arith, d, c.requires.measured, c.in-Ok.ensures.deep, c.max.ensures)

-- ---- any expression

pub whole-returns-then-depth-eq0-clause-value : goal.whole-returns-then-depth-eq0-clause-value
whole-returns-then-depth-eq0-clause-value g t c = rw (none_left c.args.depth 0 (toks c.args.tokens.now) c.if-depth-eq0.true) c.too_deep.ensures

pub whole-returns-in_err-condition-clause-value : goal.whole-returns-in_err-condition-clause-value
whole-returns-in_err-condition-clause-value g t c =
    let p = err_from_is_err_and c.from_residual.result c.from_residual.ensures.1 in
    rw (p.1, p.2) (fails_along c.in_err-condition.field-0.0 _ _ (λ f e. whole_fails c.args.depth (c.args.depth - 1) (toks c.args.tokens.now) f (omega arith) e) c.in_err-condition.ensures.value)

pub whole-returns-clause-value : goal.whole-returns-clause-value
whole-returns-clause-value g t c = rw (whole_goes c.args.depth (c.args.depth - 1) (toks c.args.tokens.now) (toks c.in_ok-condition.rest.now) (expr_of c.in_ok-condition.condition) (omega arith) c.in_ok-condition.ensures.value) c.conditional.ensures.value
