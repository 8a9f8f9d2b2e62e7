-- The contents of values of the program's own types.
use Rattle.std.specs.Prelude.{ℕ, List, map}
use Rattle.lex.specs.declared.token.Scalar.{Scalar}
use Rattle.name_tables.specs.Known.{locals_in}
use Rattle.syntax.specs.Names as Names
use Rattle.lower_spec.specs.Expressions.{LocalScope}
use Rattle.lower_exprs.specs.declared.scope.LocalRegisters.{LocalRegisters}

abbrev pub local_in : List ℕ × Scalar → Names.Local
local_in l = record { name = l.0; ty = l.1; word = 0 }

module _ {A : Type 0} where
  abbrev pub scope_in : LocalRegisters A → LocalScope
  scope_in scope = map local_in (locals_in scope.known)
