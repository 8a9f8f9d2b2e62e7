use Rattle.syntax.specs.Views.{expr_of}
use Rattle.lower_exprs.specs.Lists.{lists_of}
use Rattle.lower_exprs.specs.Views.{scope_in}
use Rattle.program_tables.specs.Views.{program_in}
use Rattle.lower_exprs.proofs.Adding.{stops}
use Rattle.lower_exprs.proofs.Assigning.{lvalue_within, value_within, value_behind, assigned_there}
use Rattle.lower_exprs.proofs.simple.lower_assign.Goals as goal

pub returns-in_err-aim : goal.returns-in_err-aim
returns-in_err-aim g c =
    stops c.aim.ensures c.in_err-aim.was c.from_residual.ensures (lvalue_within (program_in c.args.names.now) (scope_in c.args.scope.now) (expr_of c.args.to.now) c.args.from c.args.free (lists_of c.args.lists.now) (expr_of c.args.value.now))

pub returns-in_err-location : goal.returns-in_err-location
returns-in_err-location g c =
    let value = value_behind (program_in c.args.names.now) (scope_in c.args.scope.now) (expr_of c.args.to.now) c.args.from c.args.free (lists_of c.args.lists.now) (expr_of c.args.value.now) c.in_ok-aim.ensures c.above_target-later.ensures c.home_or-home.ensures c.lower_fitting.ensures in
    stops value c.in_err-location.was c.from_residual-in_err-location.ensures (value_within (program_in c.args.names.now) (scope_in c.args.scope.now) (expr_of c.args.to.now) c.args.from c.args.free (lists_of c.args.lists.now) (expr_of c.args.value.now))

pub returns : goal.returns
returns g c =
    assigned_there (program_in c.args.names.now) (scope_in c.args.scope.now) (expr_of c.args.to.now) c.args.from c.args.free (lists_of c.args.lists.now) (expr_of c.args.value.now) c.in_ok-aim.ensures c.above_target-later.ensures c.home_or-home.ensures c.in_ok-location.ensures (c.store.ensures (lists_of c.lower_fitting.new.lists))
