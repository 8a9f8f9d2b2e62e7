use Rattle.std.proofs.Common.{◌≡◌, map, take}
use Rattle.meaning.specs.InOrder.{report_in}
use Rattle.walks.specs.Found.{state_at}
use Rattle.walks.specs.States.{told_at}
use Rattle.serving.proofs.at_rest.state_told.Given as goal

-- the list is that of the threads so far
abbrev pub invariant-threads : goal.invariant-threads
invariant-threads g l = map report_in l.told.items ≡ take l.t (told_at (state_at l.walk l.state))
