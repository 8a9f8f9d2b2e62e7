use Rattle.std.proofs.Common.{◌≡◌, ◌+◌, ℕ, List, map, drop}
use Rattle.std.specs.Option.{option_or}
use Rattle.syntax.specs.Names.{global_from, global_of, globals}
use Rattle.syntax.specs.Views.{item_of}
use Rattle.program_tables.specs.inner.Tables.{total_cells, shared_at}
use Rattle.program_tables.proofs.globals.place_globals.Given as goal

abbrev pub invariant-items : goal.invariant-items
invariant-items g l = record {
  value : (x : List ℕ) → option_or (shared_at l.table x) (global_from l.cell (globals (map item_of (drop l.item-index l.items))) x) ≡ global_of (map item_of l.items) x;
  cells : l.cell + total_cells (globals (map item_of (drop l.item-index l.items))) ≡ total_cells (globals (map item_of l.items));
}
