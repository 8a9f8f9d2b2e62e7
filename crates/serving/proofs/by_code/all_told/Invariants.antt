use Rattle.std.proofs.Common.{◌≡◌, map, take}
use Rattle.meaning.specs.InOrder.{report_in}
use Rattle.walks.specs.Ordered.{all_resting}
use Rattle.serving.proofs.AtRest.{told}
use Rattle.serving.proofs.by_code.all_told.Given as goal

-- the list is that of the threads so far
abbrev pub invariant-threads : goal.invariant-threads
invariant-threads g l = map report_in l.told.items ≡ take l.t (map told (all_resting l.threads.items))
