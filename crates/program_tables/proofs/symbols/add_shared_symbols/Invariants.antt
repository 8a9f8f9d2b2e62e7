use Rattle.std.proofs.Common.{◌≡◌, ℕ, List, map, drop}
use Rattle.syntax.specs.Types.{Scope, known_among}
use Rattle.syntax.specs.Views.{global_of}
use Rattle.name_tables.specs.Known.{entries_in}
use Rattle.name_tables.specs.Named.{first}
use Rattle.program_tables.specs.inner.Tables.{known_or}
use Rattle.program_tables.proofs.symbols.add_shared_symbols.Given as goal

abbrev pub invariant-globals : goal.invariant-globals
invariant-globals g l =
    (x : List ℕ) (rest : Scope) → known_or (first (entries_in l.table) x) (known_among (map global_of (drop l.g-index l.gs)) rest x) ≡ known_or (first (entries_in l.initial.table) x) (known_among (map global_of l.gs) rest x)
