use Rattle.std.proofs.Common.{◌≡◌, ◌++◌, drop, length}
use Rattle.lex.specs.Laws.{Lie}
use Rattle.lex.specs.Tokens.{toks}
use Rattle.parameters.specs.Puts.{put_from}
use Rattle.parameters.proofs.put.put_tokens.Given as goal

-- the text so far, and what follows
abbrev pub invariant-tokens : goal.invariant-tokens
invariant-tokens g l = record {
  lie : Lie l.text l.from (length l.text) (toks (drop l.token-index l.tokens));
  text : l.new.items ++ put_from l.definitions l.text l.from (toks (drop l.token-index l.tokens)) ≡ put_from l.definitions l.text 0 (toks l.tokens);
}
