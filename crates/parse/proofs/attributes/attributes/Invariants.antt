use Rattle.std.proofs.Common.{◌≡◌, ◌-◌, length}
use Rattle.lex.specs.Tokens.{toks}
use Rattle.parse.specs.inner.Reading.{many}
use Rattle.parse.specs.inner.Items.{attribute_list, is_plain, attributes}
use Rattle.parse.proofs.code.Loops.{poured}
use Rattle.parse.proofs.attributes.attributes.Given as goal

-- what was read, and what is still to be read
abbrev pub invariant-turns : goal.invariant-turns
invariant-turns g l = record {
  long : l.count ≡ length l.tokens;
  value : poured l.all (many is_plain (l.count - l._turn) attribute_list (toks l.rest)) ≡ attributes (toks l.tokens);
}
