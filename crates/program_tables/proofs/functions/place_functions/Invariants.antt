use Rattle.std.proofs.Common.{◌≡◌, ◌≤◌, ℕ, List, map, drop}
use Rattle.std.specs.Option.{option_or}
use Rattle.name_tables.specs.Known.{entries_in}
use Rattle.name_tables.specs.Named.{first}
use Rattle.syntax.specs.Views.{item_of}
use Rattle.program_tables.specs.inner.Tables.{place_from}
use Rattle.program_tables.proofs.functions.place_functions.Given as goal

-- the table and what is left give what all items do
abbrev pub invariant-items : goal.invariant-items
invariant-items g l = record {
  value : (x : List ℕ) → option_or (first (entries_in l.table) x) (place_from l.i l.number (map item_of (drop l.i l.items)) x) ≡ place_from 0 0 (map item_of l.items) x;
  few : l.number ≤ l.i;
}
