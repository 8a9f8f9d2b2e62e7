use Rattle.std.proofs.Common.{◌≡◌, ◌+◌, map, take}
use Rattle.replay.specs.declared.line.TheConstants.{MOST_STEPS}
use Rattle.replay.specs.Schedules.{AreRows, counts}
use Rattle.replay.proofs.schedule.read_rows.Given as goal

-- the lines of the rows so far, and how many steps are left
abbrev pub invariant-rows : goal.invariant-rows
invariant-rows g l = record {
  lines_are : AreRows (map (λ row. row.now) (take l.at l.rows)) l.found.items;
  few : counts l.found.items + l.left ≡ MOST_STEPS;
}
