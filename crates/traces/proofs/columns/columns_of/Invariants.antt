use Rattle.std.proofs.Common.{◌≡◌, map}
use Rattle.traces.specs.Columns.{columns_to}
use Rattle.traces.specs.Views.{column_of, named_of, turn_of}
use Rattle.traces.proofs.columns.columns_of.Given as goal

-- the columns of the first cells
abbrev pub invariant-cells : goal.invariant-cells
invariant-cells g l = map column_of l.columns ≡ columns_to (map named_of l.names) l.first (map turn_of l.turns) l.cell
