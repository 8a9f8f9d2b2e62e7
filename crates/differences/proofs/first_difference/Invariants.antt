use Rattle.std.proofs.Common.{◌≡◌, take}
use Rattle.differences.proofs.Firsts.{seen}
use Rattle.differences.proofs.first_difference.Given as goal

-- the lines so far are the same
abbrev pub invariant-lines : goal.invariant-lines
invariant-lines l = take l.at (seen l.due) ≡ take l.at (seen l.found)
