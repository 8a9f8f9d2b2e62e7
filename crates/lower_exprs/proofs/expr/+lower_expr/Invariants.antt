use Rattle.std.proofs.Common.{◌≡◌, drop, map}
use Rattle.syntax.specs.Views.{exprs_of, parameter_of}
use Rattle.selection.specs.Expressions.{types_of, emit_all}
use Rattle.lower_exprs.specs.Lists.{lists_of}
use Rattle.lower_exprs.specs.Views.{scope_in}
use Rattle.program_tables.specs.Views.{program_in}
use Rattle.lower_exprs.proofs.Rows.{values_behind}
use Rattle.lower_exprs.proofs.expr.+lower_expr.Given as goal

-- what is made and what is to come are the whole
abbrev pub invariant-lower_all-each : goal.invariant-lower_all-each
invariant-lower_all-each g l =
    (l.number ≡ l.one-index)
    × (values_behind l.code.items l.registers.items
    (emit_all (program_in l.names) (scope_in l.scope) (drop l.one-index (types_of (map parameter_of l.parameters))) (exprs_of (drop l.one-index l.all)) l.to l.later (lists_of l.lists))
    ≡ values_behind l.fn.code.items l.fn.registers.items
    (emit_all (program_in l.names) (scope_in l.scope) (types_of (map parameter_of l.parameters)) (exprs_of l.all) l.from l.free (lists_of l.fn.lists)))
