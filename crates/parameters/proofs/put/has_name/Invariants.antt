use Rattle.std.proofs.Common.{◌≡◌, drop}
use Rattle.lex.specs.Tokens.{toks}
use Rattle.parameters.specs.Puts.{has_name}
use Rattle.parameters.proofs.put.has_name.Given as goal

-- the tokens so far are other ones
abbrev pub invariant-tokens : goal.invariant-tokens
invariant-tokens l = has_name l.name (toks (drop l.token-index l.tokens)) ≡ has_name l.name (toks l.tokens)
