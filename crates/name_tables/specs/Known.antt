-- The contents of tables and scopes, as lists of names with what they denote, in order of declaration.
use denote.Ref.{Bor}
use Rattle.std.specs.Prelude.{ℕ, List, map}
use Rattle.name_tables.specs.declared.entries.LocalEntry.{LocalEntry}
use Rattle.name_tables.specs.declared.entries.Table.{Table}
use Rattle.name_tables.specs.declared.entries.Scope.{Scope}

module _ {V : Type 0} where
  abbrev pub entry_of : Bor (List ℕ) × V → List ℕ × V
  entry_of e = (e.0.now, e.1)

  abbrev pub local_of : LocalEntry V → List ℕ × V
  local_of l = (l.name.now, l.value)

module _ {V A : Type 0} where
  -- the names of a table, each with what it was first declared as
  abbrev pub entries_in : Table V A → List (List ℕ × V)
  entries_in t = map entry_of t.map.entries

  -- the declarations of a scope, hidden ones too
  abbrev pub locals_in : Scope V A → List (List ℕ × V)
  locals_in s = map local_of s.locals.items
