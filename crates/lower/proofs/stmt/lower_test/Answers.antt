use Rattle.std.proofs.Common.{ap, sym, option_map}
use Rattle.syntax.specs.Views.{expr_of}
use Rattle.selection.specs.Statements.{for_test}
use Rattle.lower_exprs.specs.Lists.{lists_of}
use Rattle.lower_exprs.specs.Fragments.{of_written}
use Rattle.lower_exprs.specs.Views.{scope_in}
use Rattle.program_tables.specs.Views.{program_in}
use Rattle.lower_exprs.proofs.Adding.{same}
use Rattle.lower.proofs.stmt.lower_test.Goals as goal

pub returns-in-Some : goal.returns-in-Some
returns-in-Some g c =
    same (ap (λ o. of_written (for_test (program_in c.args.names.now) (scope_in c.args.scope.now) (option_map expr_of o) c.args.back c.args.from (lists_of c.args.lists.now))) (sym c.in-Some.is)) c.lower_back.ensures
