use Rattle.std.proofs.Common.{◌≡◌, ◌-◌, map, length}
use Rattle.lex.specs.Tokens.{toks}
use Rattle.syntax.specs.Views.{item_of}
use Rattle.parse.specs.inner.Reading.{many}
use Rattle.parse.specs.inner.Items.{at_end, item_at, program_at}
use Rattle.parse.proofs.code.Turns.{onward}
use Rattle.parse.proofs.unit.program.Given as goal

-- what was read, and what is still to be read
abbrev pub invariant-turns : goal.invariant-turns
invariant-turns g l = record {
  long : l.count ≡ length l.tokens;
  value : onward (map item_of l.all) (many at_end (l.count - l._turn) (item_at l.depth) (toks l.rest)) ≡ program_at l.depth (toks l.tokens);
}
