use Rattle.std.proofs.Common.{length, ◌-◌, ◌≤◌, take, drop}
use Rattle.lex.specs.Pieces.{IsStringBody}
use Rattle.lex.specs.inner.Strings.{Unclosed}
use Rattle.lex.proofs.string.inside_len.Given as goal

-- what was passed may stand in a string, and where the rest is not closed the whole is not
abbrev pub invariant-inside : goal.invariant-inside
invariant-inside l = record {
  within : l.at ≤ length l.rest;
  inside : IsStringBody (take l.at l.rest);
  open_if : Unclosed (drop l.at l.rest) → Unclosed l.rest;
}

abbrev pub decreases-inside : goal.decreases-inside
decreases-inside l = length l.rest - l.at
