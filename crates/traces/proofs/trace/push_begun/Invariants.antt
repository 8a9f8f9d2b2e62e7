use Rattle.std.proofs.Common.{◌≡◌, ◌++◌, [], map, drop}
use Rattle.std.specs.Prelude.{flat_map}
use Rattle.traces.specs.Trace.{turn_line}
use Rattle.traces.specs.Views.{column_of, turn_of}
use Rattle.traces.proofs.trace.push_begun.Given as goal

-- what is written and what is to come make up the whole
abbrev pub invariant-begun : goal.invariant-begun
invariant-begun g l =
    l.text.items ++ flat_map (turn_line (map column_of l.columns) []) (map turn_of (drop l.turn-index l.begun))
    ≡ l.initial.text.items ++ flat_map (turn_line (map column_of l.columns) []) (map turn_of l.begun)
