-- The functions that are defined so far.
use Rattle.std.specs.Prelude.{◌≡◌, ℕ, List, is_some}
use Rattle.syntax.specs.Tree.{Item}
use Rattle.syntax.specs.Typing.{has_name, defined_names}
use Rattle.name_tables.specs.Named.{first}
use Rattle.name_tables.specs.Known.{entries_in}
use Rattle.name_tables.specs.declared.entries.Table.{Table}

-- these are the names of the functions that these items define
abbrev pub AreBodies : {V A : Type 0} → Table V A → List Item → Type 0
AreBodies bodies items = (x : List ℕ) → is_some (first (entries_in bodies) x) ≡ has_name (defined_names items) x
