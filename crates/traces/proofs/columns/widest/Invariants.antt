use Rattle.std.proofs.Common.{◌≡◌, drop, map}
use Rattle.traces.specs.Columns.{widest}
use Rattle.traces.specs.Views.{turn_of}
use Rattle.traces.proofs.columns.widest.Given as goal

-- the width so far, and the turns to come
abbrev pub invariant-turns : goal.invariant-turns
invariant-turns g l = widest l.cell l.ty l.width (map turn_of (drop l.turn-index l.turns)) ≡ widest l.cell l.ty l.least (map turn_of l.turns)
