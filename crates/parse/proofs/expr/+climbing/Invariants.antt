use Rattle.std.proofs.Common.{◌≡◌, ◌+◌, ◌-◌, ◌*◌, ◌≤◌, map, length}
use Rattle.lex.specs.Tokens.{toks}
use Rattle.lex.specs.declared.token.Fixed.TheVariants.{Punctuator}
use Rattle.lex.specs.declared.token.Punctuator.TheVariants as punct
use Rattle.syntax.specs.Depth.{expr_depth, deepest}
use Rattle.syntax.specs.Views.{expr_of, exprs_of}
use Rattle.parse.specs.inner.Reading.{behind, climb_loop, is_other, many, many_until}
use Rattle.parse.specs.inner.Expressions.{expr_at, operators, whole_at}
use Rattle.parse.proofs.code.Turns.{onward}
use Rattle.parse.proofs.expr.+climbing.Given as goal

abbrev pub decreases-climb : goal.decreases-climb
decreases-climb g l = 7 * l.depth

abbrev pub decreases-whole : goal.decreases-whole
decreases-whole g l = 7 * l.depth + 1

abbrev pub decreases-conditional : goal.decreases-conditional
decreases-conditional g l = 7 * l.depth + 4

abbrev pub decreases-outcomes : goal.decreases-outcomes
decreases-outcomes g l = 7 * l.depth + 3

abbrev pub decreases-behind : goal.decreases-behind
decreases-behind g l = 7 * l.depth + 2

abbrev pub decreases-extend : goal.decreases-extend
decreases-extend g l = 7 * l.depth + 3

abbrev pub decreases-arguments : goal.decreases-arguments
decreases-arguments g l = 7 * l.depth + 4

abbrev pub decreases-name_expr : goal.decreases-name_expr
decreases-name_expr g l = 7 * l.depth + 5

abbrev pub decreases-cast_or_group : goal.decreases-cast_or_group
decreases-cast_or_group g l = 7 * l.depth + 5

abbrev pub decreases-transaction : goal.decreases-transaction
decreases-transaction g l = 7 * l.depth + 5

abbrev pub decreases-prefix_operation : goal.decreases-prefix_operation
decreases-prefix_operation g l = 7 * l.depth + 5

abbrev pub decreases-operand : goal.decreases-operand
decreases-operand g l = 7 * l.depth + 6

-- what is left to do gives what the whole gives
abbrev pub invariant-climb-turns : goal.invariant-climb-turns
invariant-climb-turns g l = record {
  below : l.below + 1 ≡ l.depth;
  within : l.deep ≤ l.depth;
  deep : l.deep ≡ expr_depth (expr_of l.left);
  value : climb_loop operators (expr_at l.below) l.min l.depth (l.depth - l._turn) (expr_of l.left) (toks l.rest) ≡ expr_at l.depth l.min (toks l.tokens);
}

-- what was read, and what is still to be read
abbrev pub invariant-extend-turns : goal.invariant-extend-turns
invariant-extend-turns g l = record {
  long : l.count ≡ length l.tokens;
  within : l.most ≤ l.depth;
  deep : l.most ≡ deepest (exprs_of l.all);
  value : onward (map expr_of l.all) (many (is_other (Punctuator punct.Comma)) (l.count - l._turn) (behind (Punctuator punct.Comma) (whole_at l.depth)) (toks l.rest)) ≡ onward (map expr_of l.fn.read) (many_until (is_other (Punctuator punct.Comma)) (behind (Punctuator punct.Comma) (whole_at l.depth)) (toks l.tokens));
}
