use Rattle.std.proofs.Common.{◌≡◌, ◌+◌, ◌++◌, [], length, ap, ◌∙◌}
use Rattle.syntax.specs.Formats.{pieces}
use Rattle.syntax.specs.Views.{exprs_of}
use Rattle.selection.specs.Expressions.{emit_all}
use Rattle.selection.specs.Statements.{pieces_written}
use Rattle.lower_exprs.specs.Lists.{lists_of}
use Rattle.lower_exprs.specs.Fragments.{of_values, of_written}
use Rattle.lower_exprs.specs.Views.{scope_in}
use Rattle.program_tables.specs.Views.{program_in}
use Rattle.lower_exprs.proofs.Adding.{same, one_in_front, in_turn, stops}
use Rattle.lower.proofs.Within.{arguments_within}
use Rattle.lower.proofs.stmt.lower_print.Goals as goal

pub returns-in_err-to : goal.returns-in_err-to
returns-in_err-to g c =
    let args : _ ≡ emit_all (program_in c.args.names.now) (scope_in c.args.scope.now) [] (exprs_of c.args.args.now) (c.args.from + 1) (length (scope_in c.args.scope.now)) (lists_of c.args.lists.now) = (λ j. emit_all (program_in c.args.names.now) (scope_in c.args.scope.now) [] (exprs_of c.args.args.now) (c.in_ok-next.ensures j) (c.len-free.ensures j) (lists_of c.args.lists.now)) in
    stops (same (ap of_values args) c.lower_all.ensures.code) c.in_err-to.was c.from_residual-in_err-to.ensures (arguments_within (emit_all (program_in c.args.names.now) (scope_in c.args.scope.now) [] (exprs_of c.args.args.now) (c.args.from + 1) (length (scope_in c.args.scope.now)) (lists_of c.args.lists.now)) (pieces c.args.format.now))

pub returns : goal.returns
returns g c =
    let args : _ ≡ emit_all (program_in c.args.names.now) (scope_in c.args.scope.now) [] (exprs_of c.args.args.now) (c.args.from + 1) (length (scope_in c.args.scope.now)) (lists_of c.args.lists.now) = (λ j. emit_all (program_in c.args.names.now) (scope_in c.args.scope.now) [] (exprs_of c.args.args.now) (c.in_ok-next.ensures j) (c.len-free.ensures j) (lists_of c.args.lists.now)) in
    let k = same (ap of_values args) c.in_ok-to.ensures.code in
    let rs = c.as_slice.ensures ∙ c.in_ok-to.ensures.registers ∙ (λ j. c.new-registers.ensures.items j ++ (args j).registers) in
    one_in_front c.in_ok-put.ensures
    (in_turn k (λ j. of_written (pieces_written (pieces (c.as_bytes.ensures.value j)) (rs j) (k.end j) (k.lists j))) c.put_pieces.ensures)
