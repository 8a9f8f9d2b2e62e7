use Rattle.std.proofs.Common.{◌≤◌, length}
use Rattle.messages.proofs.carets.shown_to.Given as goal

-- from the offset on, and in the text
abbrev pub invariant-behind : goal.invariant-behind
invariant-behind l = record { from : l.offset ≤ l.to; to : l.to ≤ length l.text }
