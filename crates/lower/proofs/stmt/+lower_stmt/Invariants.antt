use Rattle.std.proofs.Common.{◌≡◌, drop}
use Rattle.syntax.specs.Views.{stmts_of}
use Rattle.lower_spec.specs.inner.Locals.{locals_at_end}
use Rattle.selection.specs.Statements.{stmts_code}
use Rattle.lower_exprs.specs.Lists.{lists_of}
use Rattle.lower_exprs.specs.Views.{scope_in}
use Rattle.program_tables.specs.Views.{program_in}
use Rattle.lower_exprs.proofs.Adding.{written_behind}
use Rattle.lower.proofs.stmt.+lower_stmt.Given as goal

-- what is made and what is to come are the whole
abbrev pub invariant-lower_stmts-body : goal.invariant-lower_stmts-body
invariant-lower_stmts-body g l =
    let rest = stmts_of (drop l.s-index l.body) in
    let all = stmts_of l.body in
    record {
      scope : locals_at_end rest (scope_in l.scope) ≡ locals_at_end all (scope_in l.fn.scope);
      code : written_behind l.code.items (stmts_code (program_in l.names) rest l.exits (scope_in l.scope) l.to (lists_of l.lists))
          ≡ written_behind l.fn.code.items (stmts_code (program_in l.names) all l.exits (scope_in l.fn.scope) l.from (lists_of l.fn.lists));
    }
