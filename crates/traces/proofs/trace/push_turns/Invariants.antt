use Rattle.std.proofs.Common.{◌≡◌, ◌++◌, map, drop}
use Rattle.traces.specs.Trace.{turn_lines}
use Rattle.traces.specs.Views.{column_of, turn_of}
use Rattle.traces.proofs.trace.push_turns.Given as goal

-- what is written and what is to come make up the whole
abbrev pub invariant-turns : goal.invariant-turns
invariant-turns g l =
    l.text.items ++ turn_lines (map column_of l.columns) l.number (map turn_of (drop l.turn-index l.turns))
    ≡ l.initial.text.items ++ turn_lines (map column_of l.columns) 1 (map turn_of l.turns)
