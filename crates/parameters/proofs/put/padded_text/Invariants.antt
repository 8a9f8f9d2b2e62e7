use Rattle.std.proofs.Common.{◌≡◌, ◌++◌, replicate}
use Rattle.parameters.specs.Puts.{written}
use Rattle.parameters.proofs.put.padded_text.Given as goal

-- the number, and the blanks so far
abbrev pub invariant-blanks : goal.invariant-blanks
invariant-blanks g l = l.text.items ≡ written l.fn.number ++ replicate l.counter 32
