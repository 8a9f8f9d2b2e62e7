-- The locals after statements.
use Rattle.std.specs.Prelude.{[], ◌∷◌}
use Rattle.syntax.specs.Tree.{Stmts}
use Rattle.lower_spec.specs.Expressions.{LocalScope}
use Rattle.lower_spec.specs.Statements.{locals_after}

abbrev pub locals_at_end : Stmts → LocalScope → LocalScope
locals_at_end Stmts.[] scope = scope
locals_at_end (Stmts.◌∷◌ s ss) scope = locals_at_end ss (locals_after s scope)
