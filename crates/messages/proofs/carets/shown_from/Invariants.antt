use Rattle.std.proofs.Common.{◌≤◌}
use Rattle.messages.proofs.carets.shown_from.Given as goal

-- never behind the offset
abbrev pub invariant-before-2 : goal.invariant-before-2
invariant-before-2 l = l.from ≤ l.offset
