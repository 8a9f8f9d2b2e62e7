use Rattle.std.proofs.Common.{◌≡◌, ◌++◌, replicate}
use Rattle.syntax.proofs.initial.push_zeros.Given as goal

abbrev pub invariant-zeros : goal.invariant-zeros
invariant-zeros g l = l.words.items ≡ l.initial.words.items ++ replicate l.counter 0
