use Rattle.std.proofs.Common.{map}
use Rattle.std.specs.List.{range_with_len}
use Rattle.json.specs.Token.{string}
use Rattle.traces.specs.Names.{cell_of}
use Rattle.traces.specs.Views.{named_of}
use Rattle.pages.specs.Data.{Appends}
use Rattle.pages.proofs.cells.put_names.Given as goal

-- the names of the first cells are written
abbrev pub invariant-cells : goal.invariant-cells
invariant-cells g l =
    Appends l.initial.to l.to (map (λ c. string (cell_of (map named_of l.globals) c).name) (range_with_len 0 l.cell))
