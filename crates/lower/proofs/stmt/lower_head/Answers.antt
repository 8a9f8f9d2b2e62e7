use Rattle.std.proofs.Common.{ap}
use Rattle.syntax.specs.Views.{expr_of}
use Rattle.selection.specs.Expressions.{condition}
use Rattle.lower_exprs.specs.Lists.{lists_of}
use Rattle.lower_exprs.specs.Fragments.{of_test}
use Rattle.lower_exprs.specs.Views.{scope_in}
use Rattle.program_tables.specs.Views.{program_in}
use Rattle.lower_exprs.proofs.Adding.{no_less, noted, same, stops}
use Rattle.lower.proofs.stmt.lower_head.Goals as goal

pub returns : goal.returns
returns g c =
    let there = ap (λ n. of_test (condition (program_in c.args.names.now) (scope_in c.args.scope.now) (expr_of c.args.c.now) c.args.from n (lists_of c.args.lists.now))) c.len-free.ensures in
    noted c.note.ensures (same there c.in_ok-t.ensures)

pub returns-in_err-t : goal.returns-in_err-t
returns-in_err-t g c =
    let there = ap (λ n. of_test (condition (program_in c.args.names.now) (scope_in c.args.scope.now) (expr_of c.args.c.now) c.args.from n (lists_of c.args.lists.now))) c.len-free.ensures in
    stops (same there c.lower_condition.ensures) c.in_err-t.was c.from_residual.ensures (no_less _)
