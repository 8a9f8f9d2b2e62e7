use Rattle.std.proofs.Common.{◌≡◌, ◌++◌, replicate}
use Rattle.traces.proofs.push.push_blanks.Given as goal

abbrev pub invariant-blanks : goal.invariant-blanks
invariant-blanks g l = l.text.items ≡ l.fn.text.items ++ replicate l.counter 32
