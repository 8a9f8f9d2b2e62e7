use Rattle.std.proofs.Common.{◌≡◌, ◌+◌, ◌++◌, ℕ, List, map, drop}
use Rattle.std.specs.Option.{option_or}
use Rattle.syntax.specs.Tree.{Global}
use Rattle.syntax.specs.Names.{global_from}
use Rattle.syntax.specs.Views.{global_of}
use Rattle.program_tables.specs.inner.Tables.{total_cells, shared_at}
use Rattle.program_tables.proofs.globals.add_globals.Given as goal

-- the table and what is left give what the first table and all of them do
abbrev pub invariant-globals : goal.invariant-globals
invariant-globals g l = record {
  value : (x : List ℕ) (rest : List Global) → option_or (shared_at l.table x) (global_from l.cell (map global_of (drop l.g-index l.gs) ++ rest) x) ≡ option_or (shared_at l.initial.table x) (global_from l.first (map global_of l.gs ++ rest) x);
  cells : l.cell + total_cells (map global_of (drop l.g-index l.gs)) ≡ l.first + total_cells (map global_of l.gs);
}
