use Rattle.std.proofs.Common.{◌≡◌, ◌++◌, map, drop}
use Rattle.std.specs.Prelude.{flat_map}
use Rattle.traces.specs.Columns.{Column, value_text}
use Rattle.traces.specs.Trace.{column_text}
use Rattle.traces.specs.Views.{column_of}
use Rattle.traces.proofs.trace.push_first_values.Given as goal

-- what is written and what is to come make up the whole
abbrev pub invariant-columns : goal.invariant-columns
invariant-columns g l =
    l.text.items ++ flat_map (λ (c : Column). column_text c.width (value_text c.ty c.first)) (map column_of (drop l.column-index l.columns))
    ≡ l.initial.text.items ++ flat_map (λ (c : Column). column_text c.width (value_text c.ty c.first)) (map column_of l.columns)
