use Rattle.std.proofs.Common.{ap, sym, option_map}
use Rattle.syntax.specs.Views.{expr_of}
use Rattle.bytecode.specs.declared.instr.Instr.TheVariants as own
use Rattle.selection.specs.Expressions.{as_type}
use Rattle.selection.specs.Statements.{left_by, return_written}
use Rattle.lower_exprs.specs.Lists.{lists_of}
use Rattle.lower_exprs.specs.Fragments.{of_value, of_written}
use Rattle.lower_exprs.specs.Views.{scope_in}
use Rattle.program_tables.specs.Views.{program_in}
use Rattle.lower_exprs.proofs.Adding.{same, in_turn, stops, no_less}
use Rattle.lower.proofs.stmt.lower_return.Goals as goal

pub returns-in_ok-location-in-Some : goal.returns-in_ok-location-in-Some
returns-in_ok-location-in-Some g c =
    let some = ap (λ o. of_written (return_written (program_in c.args.names.now) (scope_in c.args.scope.now) (option_map expr_of o) c.args.exits c.args.from (lists_of c.args.lists.now))) (sym c.in-Some.is) in
    let value = ap of_value (λ j. as_type (program_in c.args.names.now) (scope_in c.args.scope.now) c.args.exits.gives (expr_of c.in-Some.e) c.args.from (c.len-free.ensures j) (c.len-free.ensures j) (lists_of c.args.lists.now)) in
    let k = same value c.in_ok-location-in-Some.ensures in
    same some (in_turn k (λ j. of_written (left_by c.args.exits.in_function (own.ReturnValue (k.end j).register) (k.end j).to (k.lists j))) (c.leave.ensures (lists_of c.lower_as.new.lists)))

pub returns-in_err-location-in-Some : goal.returns-in_err-location-in-Some
returns-in_err-location-in-Some g c =
    let some = ap (λ o. of_written (return_written (program_in c.args.names.now) (scope_in c.args.scope.now) (option_map expr_of o) c.args.exits c.args.from (lists_of c.args.lists.now))) (sym c.in-Some.is) in
    let value = ap of_value (λ j. as_type (program_in c.args.names.now) (scope_in c.args.scope.now) c.args.exits.gives (expr_of c.in-Some.e) c.args.from (c.len-free.ensures j) (c.len-free.ensures j) (lists_of c.args.lists.now)) in
    same some (stops (same value c.lower_as.ensures) c.in_err-location-in-Some.was c.from_residual.ensures (no_less _))

pub returns-in-None : goal.returns-in-None
returns-in-None g c =
    let none = ap (λ o. of_written (return_written (program_in c.args.names.now) (scope_in c.args.scope.now) (option_map expr_of o) c.args.exits c.args.from (lists_of c.args.lists.now))) (sym c.in-None.is) in
    same none (c.leave-in-None.ensures (lists_of c.args.lists.now))
