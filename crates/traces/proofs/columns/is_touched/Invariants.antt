use Rattle.std.proofs.Common.{◌≡◌, drop, map}
use Rattle.traces.specs.Columns.{is_touched}
use Rattle.traces.specs.Views.{turn_of}
use Rattle.traces.proofs.columns.is_touched.Given as goal

-- the turns before have no mark of the cell
abbrev pub invariant-turns : goal.invariant-turns
invariant-turns g l = is_touched l.cell (map turn_of (drop l.turn-index l.turns)) ≡ is_touched l.cell (map turn_of l.turns)
