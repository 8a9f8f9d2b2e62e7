use Rattle.std.proofs.Common.{◌+◌, ap, sym, arith, option_map}
use Rattle.syntax.specs.Views.{expr_of}
use Rattle.selection.specs.Simples.{first_written}
use Rattle.lower_exprs.specs.Lists.{lists_of}
use Rattle.lower_exprs.specs.Views.{scope_in}
use Rattle.program_tables.specs.Views.{program_in}
use Rattle.lower_exprs.specs.Fragments.{of_value, of_written}
use Rattle.lower_exprs.proofs.Adding.{same, stops}
use Rattle.lower_exprs.proofs.Assigning.{first_is, first_within, first_there}
use Rattle.lower_exprs.proofs.simple.lower_first.Goals as goal

pub returns-in_err-location-in-Some : goal.returns-in_err-location-in-Some
returns-in_err-location-in-Some g c =
    let some = ap (λ o. of_written (first_written (program_in c.args.names.now) (scope_in c.args.scope.now) c.args.register c.args.ty (option_map expr_of o) c.args.from (lists_of c.args.lists.now))) (sym c.in-Some.is) in
    same some (stops (same (ap of_value (first_is (program_in c.args.names.now) (scope_in c.args.scope.now) c.args.register c.args.ty (expr_of c.in-Some.e) c.args.from (c.args.register + 1) (lists_of c.args.lists.now) (omega arith))) c.lower_fitting.ensures) c.in_err-location-in-Some.was c.from_residual.ensures (first_within (program_in c.args.names.now) (scope_in c.args.scope.now) c.args.register c.args.ty (expr_of c.in-Some.e) c.args.from (c.args.register + 1) (lists_of c.args.lists.now) (omega arith)))

pub returns-in_ok-location-in-Some : goal.returns-in_ok-location-in-Some
returns-in_ok-location-in-Some g c =
    let some = ap (λ o. of_written (first_written (program_in c.args.names.now) (scope_in c.args.scope.now) c.args.register c.args.ty (option_map expr_of o) c.args.from (lists_of c.args.lists.now))) (sym c.in-Some.is) in
    same some (first_there (program_in c.args.names.now) (scope_in c.args.scope.now) c.args.register c.args.ty (expr_of c.in-Some.e) c.args.from (c.args.register + 1) (lists_of c.args.lists.now) (omega arith) (same (ap of_value (first_is (program_in c.args.names.now) (scope_in c.args.scope.now) c.args.register c.args.ty (expr_of c.in-Some.e) c.args.from (c.args.register + 1) (lists_of c.args.lists.now) (omega arith))) c.in_ok-location-in-Some.ensures) (c.store.ensures (lists_of c.lower_fitting.new.lists)))
