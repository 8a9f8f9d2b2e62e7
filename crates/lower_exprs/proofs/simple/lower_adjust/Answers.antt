use Rattle.std.proofs.Common.{option_map}
use Rattle.std.specs.Option.{option_copied}
use Rattle.syntax.specs.Views.{expr_of}
use Rattle.lower_exprs.specs.Lists.{lists_of}
use Rattle.lower_exprs.specs.Views.{scope_in}
use Rattle.program_tables.specs.Views.{program_in}
use Rattle.lower_exprs.proofs.Adding.{stops}
use Rattle.lower_exprs.proofs.Assigning.{target_within, result_within, result_there, adjusted_there}
use Rattle.lower_exprs.proofs.simple.lower_adjust.Goals as goal

pub returns-in_err-aim : goal.returns-in_err-aim
returns-in_err-aim g c =
    stops c.aim.ensures c.in_err-aim.was c.from_residual.ensures (target_within (program_in c.args.names.now) (scope_in c.args.scope.now) (expr_of c.args.to.now) c.args.from c.args.free (lists_of c.args.lists.now) c.args.op (option_map expr_of (option_copied c.args.by)))

pub returns-in_err-location : goal.returns-in_err-location
returns-in_err-location g c =
    stops (result_there (program_in c.args.names.now) (scope_in c.args.scope.now) (expr_of c.args.to.now) c.args.from c.args.free (lists_of c.args.lists.now) c.args.op (option_map expr_of (option_copied c.args.by)) c.in_ok-aim.ensures c.above_target-later.ensures c.lower_changed.ensures) c.in_err-location.was c.from_residual-in_err-location.ensures (result_within (program_in c.args.names.now) (scope_in c.args.scope.now) (expr_of c.args.to.now) c.args.from c.args.free (lists_of c.args.lists.now) c.args.op (option_map expr_of (option_copied c.args.by)))

pub returns : goal.returns
returns g c =
    adjusted_there (program_in c.args.names.now) (scope_in c.args.scope.now) (expr_of c.args.to.now) c.args.from c.args.free (lists_of c.args.lists.now) c.args.op (option_map expr_of (option_copied c.args.by)) c.in_ok-aim.ensures c.above_target-later.ensures c.in_ok-location.ensures (c.store.ensures (lists_of c.lower_changed.new.lists))
