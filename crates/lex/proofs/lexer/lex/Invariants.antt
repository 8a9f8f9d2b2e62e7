use Rattle.std.proofs.Common.{length, ◌-◌, ◌≤◌}
use Rattle.lex.specs.Tokens.{toks}
use Rattle.lex.specs.Pieces.{Cut}
use Rattle.lex.proofs.lexer.lex.Given as goal

-- the text up to the offset is cut into the tokens found so far
abbrev pub invariant-pieces : goal.invariant-pieces
invariant-pieces g l = record {
  within : l.at ≤ length l.text;
  cut : Cut l.text l.at (toks l.tokens.items);
}

abbrev pub decreases-pieces : goal.decreases-pieces
decreases-pieces g l = length l.text - l.at
