use Rattle.std.proofs.Common.{sym, ◌∙◌}
use Rattle.syntax.specs.Views.{expr_of}
use Rattle.lower_exprs.specs.Lists.{lists_of}
use Rattle.lower_exprs.specs.Views.{scope_in}
use Rattle.program_tables.specs.Views.{program_in}
use Rattle.lower_exprs.proofs.Adding.{stops}
use Rattle.lower_exprs.proofs.Changing.{placed_there, placed_within}
use Rattle.lower_exprs.proofs.simple.lower_fitting.Goals as goal

pub returns-in_ok-a-in-None : goal.returns-in_ok-a-in-None
returns-in_ok-a-in-None g c =
    placed_there (program_in c.args.names.now) (scope_in c.args.scope.now) c.args.target (expr_of c.args.e.now) c.args.from c.args.home c.args.free (lists_of c.args.lists.now) (sym c.constant_of.ensures ∙ c.in-None.is) c.in_ok-a-in-None.ensures c.put_fitting.ensures

pub returns-in_err-a-in-None : goal.returns-in_err-a-in-None
returns-in_err-a-in-None g c =
    stops c.lower_expr.ensures c.in_err-a-in-None.was c.from_residual.ensures (placed_within (program_in c.args.names.now) (scope_in c.args.scope.now) c.args.target (expr_of c.args.e.now) c.args.from c.args.home c.args.free (lists_of c.args.lists.now) (sym c.constant_of.ensures ∙ c.in-None.is))
