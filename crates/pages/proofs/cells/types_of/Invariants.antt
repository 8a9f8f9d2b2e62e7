use Rattle.std.proofs.Common.{◌≡◌, map}
use Rattle.traces.specs.Views.{named_of}
use Rattle.pages.specs.Data.{types_of}
use Rattle.pages.proofs.cells.types_of.Given as goal

-- the types of the first cells
abbrev pub invariant-cells : goal.invariant-cells
invariant-cells g l = l.types.items ≡ types_of (map named_of l.globals) l.cell
