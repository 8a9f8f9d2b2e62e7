use Rattle.std.proofs.Common.{◌≡◌, ◌+◌, ◌-◌, ◌*◌, map, length}
use Rattle.lex.specs.declared.token.Fixed.TheVariants.{Punctuator}
use Rattle.lex.specs.declared.token.Punctuator.TheVariants as punct
use Rattle.lex.specs.Tokens.{toks}
use Rattle.syntax.specs.Views.{stmt_of}
use Rattle.parse.specs.inner.Reading.{is_next}
use Rattle.parse.specs.inner.Statements.{entry, stmt_at, block_at}
use Rattle.parse.proofs.code.Rounds.{Round}
use Rattle.parse.proofs.stmt.+statements.Given as goal

abbrev pub decreases-boxed_stmt : goal.decreases-boxed_stmt
decreases-boxed_stmt g l = 6 * l.depth + 2

abbrev pub decreases-branches : goal.decreases-branches
decreases-branches g l = 6 * l.depth + 4

abbrev pub decreases-else_part : goal.decreases-else_part
decreases-else_part g l = 6 * l.depth + 3

abbrev pub decreases-if_stmt : goal.decreases-if_stmt
decreases-if_stmt g l = 6 * l.depth + 5

abbrev pub decreases-while_stmt : goal.decreases-while_stmt
decreases-while_stmt g l = 6 * l.depth + 5

abbrev pub decreases-do_stmt : goal.decreases-do_stmt
decreases-do_stmt g l = 6 * l.depth + 5

abbrev pub decreases-for_stmt : goal.decreases-for_stmt
decreases-for_stmt g l = 6 * l.depth + 5

abbrev pub decreases-transaction_stmt : goal.decreases-transaction_stmt
decreases-transaction_stmt g l = 6 * l.depth + 5

abbrev pub decreases-entry : goal.decreases-entry
decreases-entry g l = 6 * l.depth + 2

abbrev pub decreases-block : goal.decreases-block
decreases-block g l = 6 * l.depth

abbrev pub decreases-stmt : goal.decreases-stmt
decreases-stmt g l = 6 * l.depth + 1

-- what was read, and what is still to be read, give the whole
abbrev pub invariant-block-turns : goal.invariant-block-turns
invariant-block-turns g l = record {
  long : l._turn-end ≡ length l.initial.rest;
  value : Round (is_next (Punctuator punct.CloseBrace)) (entry l.below (stmt_at l.below)) (Punctuator punct.CloseBrace) (block_at l.depth (toks l.tokens)) (map stmt_of l.all) (l._turn-end - l._turn) (toks l.rest);
}
