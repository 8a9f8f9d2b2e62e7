use Rattle.std.proofs.Common.{◌≡◌, map, drop}
use Rattle.traces.specs.Names.{cell_of}
use Rattle.traces.specs.Views.{named_of}
use Rattle.traces.proofs.names.named_cell.Given as goal

-- the cell is one of the globals to come
abbrev pub invariant-globals : goal.invariant-globals
invariant-globals g l = cell_of (map named_of (drop l.global-index l.names)) l.rest ≡ cell_of (map named_of l.names) l.cell
