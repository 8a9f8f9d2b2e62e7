use Rattle.std.proofs.Common.{ap}
use Rattle.syntax.specs.Views.{simple_of}
use Rattle.selection.specs.Simples.{simple_written}
use Rattle.lower_exprs.specs.Lists.{lists_of}
use Rattle.lower_exprs.specs.Fragments.{of_written}
use Rattle.lower_exprs.specs.Views.{scope_in}
use Rattle.program_tables.specs.Views.{program_in}
use Rattle.lower_exprs.proofs.Adding.{same}
use Rattle.lower.proofs.stmt.lower_do.Goals as goal

pub returns : goal.returns
returns g c =
    same (ap (λ n. of_written (simple_written (program_in c.args.names.now) (scope_in c.args.scope.now) (simple_of c.args.s.now) c.args.from n (lists_of c.args.lists.now))) c.len-free.ensures) c.lower_simple.ensures
