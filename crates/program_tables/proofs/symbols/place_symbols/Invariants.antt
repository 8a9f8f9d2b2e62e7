use Rattle.std.proofs.Common.{◌≡◌, ℕ, List, map, drop}
use Rattle.syntax.specs.Types.{file_scope}
use Rattle.syntax.specs.Views.{item_of}
use Rattle.name_tables.specs.Known.{entries_in}
use Rattle.name_tables.specs.Named.{first}
use Rattle.program_tables.specs.inner.Tables.{known_or}
use Rattle.program_tables.proofs.symbols.place_symbols.Given as goal

abbrev pub invariant-items : goal.invariant-items
invariant-items g l = (x : List ℕ) → known_or (first (entries_in l.table) x) (file_scope (map item_of (drop l.item-index l.items)) x) ≡ file_scope (map item_of l.items) x
