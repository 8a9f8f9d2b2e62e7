use Rattle.std.proofs.Common.{◌≡◌, ◌-◌, length}
use Rattle.lex.specs.Tokens.{toks}
use Rattle.parse.specs.inner.Reading.{trailing}
use Rattle.parse.specs.inner.Items.{initialiser, value_list}
use Rattle.parse.proofs.code.Turns.{onward}
use Rattle.parse.proofs.globals.value_list.Given as goal

-- what was read, and what is still to be read
abbrev pub invariant-turns : goal.invariant-turns
invariant-turns g l = record {
  long : l._turn-end ≡ length l.initial.rest;
  value : onward l.all (trailing (l._turn-end - l._turn) initialiser (toks l.rest)) ≡ value_list (toks l.fn.tokens);
}
