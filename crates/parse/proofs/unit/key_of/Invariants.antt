use Rattle.std.proofs.Common.{◌≡◌, take}
use Rattle.std.specs.List.{fold, flat_map}
use Rattle.std.specs.Hash.DefaultHasher as sip
use Rattle.lex.specs.Tokens.{toks}
use Rattle.parse.specs.Keys.{hash_writes_of}
use Rattle.parse.proofs.unit.key_of.Given as goal

abbrev pub invariant-each : goal.invariant-each
invariant-each l = l.hasher ≡ fold sip.write sip.initial (flat_map (λ t. hash_writes_of t.terminal) (toks (take l.token-index l.tokens)))
