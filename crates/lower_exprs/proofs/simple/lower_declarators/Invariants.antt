use Rattle.std.proofs.Common.{◌≡◌, drop, map}
use Rattle.syntax.specs.Views.{declarator_of}
use Rattle.lower_spec.specs.Statements.{with_declared}
use Rattle.selection.specs.Simples.{declared_written}
use Rattle.lower_exprs.specs.Lists.{lists_of}
use Rattle.lower_exprs.specs.Views.{scope_in}
use Rattle.program_tables.specs.Views.{program_in}
use Rattle.lower_exprs.proofs.Adding.{written_behind}
use Rattle.lower_exprs.proofs.simple.lower_declarators.Given as goal

-- what is made and what is to come are the whole
abbrev pub invariant-each : goal.invariant-each
invariant-each g l =
    let rest = map declarator_of (drop l.one-index l.all) in
    let all = map declarator_of l.all in
    record {
      scope : with_declared l.ty rest (scope_in l.scope) ≡ with_declared l.ty all (scope_in l.fn.scope);
      code : written_behind l.code.items (declared_written (program_in l.names) l.ty rest (scope_in l.scope) l.to (lists_of l.lists))
          ≡ written_behind l.fn.code.items (declared_written (program_in l.names) l.ty all (scope_in l.fn.scope) l.from (lists_of l.fn.lists));
    }
