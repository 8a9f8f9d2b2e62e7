use Rattle.std.proofs.Common.{ℕ, ◌+◌, [], ◌∷◌, ◌++◌, length, refl, sym, ap, ◌∙◌, arith, OnOk, Result, Ok, Err, Some, option_map, append_assoc}
use denote.Param.Weighed.{most, at_most}
use Rattle.syntax.specs.declared.tree.Stmt.{the_lemmas}
use Rattle.syntax.specs.declared.tree.Stmt.TheVariants as own_stmt
use Rattle.syntax.proofs.tree.Stmt.TheLaws.{the_size}
use Rattle.syntax.specs.Views.{expr_of, simple_of, start_of, stmt_of, stmts_of}
use Rattle.bytecode.specs.declared.instr.Instr.TheVariants as own
use Rattle.selection.specs.declared.locations.ConditionRegister.{ConditionRegister}
use Rattle.selection.specs.Conditions.{going_on}
use Rattle.selection.specs.Expressions.{condition}
use Rattle.selection.specs.Simples.{Written}
use Rattle.selection.specs.Statements.{if_code, looping, tested_back, for_step, for_test, stmt_code, stmts_code}
use Rattle.selection.proofs.Growing.{condition_more}
use Rattle.selection.proofs.GrowingStmts.{written_more}
use Rattle.lower_exprs.specs.Lists.{lists_of}
use Rattle.lower_exprs.specs.Fragments.{of_written}
use Rattle.lower_exprs.specs.Views.{scope_in}
use Rattle.program_tables.specs.Views.{program_in}
use Rattle.lower_exprs.proofs.Adding.{same, noted, in_turn, gathered, written_alone, stops, no_less}
use Rattle.lower.proofs.Within.{test_within, step_within, body_within, start_within}
use Rattle.lower.proofs.Written.{first_within, next_stmt, next_scope, last_scope, no_more_stmts}
use Rattle.lower.proofs.Leaving.{start_longer, start_left, stmt_longer, stmt_left, stmts_longer, stmts_left}
use Rattle.lower.proofs.Nodes.{code_there, scope_there, simple_is, break_is, continue_is, return_is, declare_is, print_is, block_is, if_is, if_else_is, while_is, do_is, for_is, transaction_is}
use Rattle.lower.proofs.Loop.{for_there}
use Rattle.lower.proofs.stmt.+lower_stmt.Goals as goal

holds : {X Y P : Type 0} (r : Result X Y) → P → OnOk r P
holds (Ok x) p = p
holds (Err e) p = tt

pub lower_stmt-returns-clause-code : goal.lower_stmt-returns-clause-code
lower_stmt-returns-clause-code g t c =
    let first = ap (λ l. of_written (stmt_code (program_in c.args.names.now) (stmt_of c.args.s.now) c.args.exits (scope_in c.args.scope.now) c.args.from l)) c.note_first.ensures in
    noted c.note_stmt.ensures (same first c.in_ok-to.ensures.code)

pub lower_stmt-returns-in_err-to-clause-code : goal.lower_stmt-returns-in_err-to-clause-code
lower_stmt-returns-in_err-to-clause-code g t c =
    let first = ap (λ l. of_written (stmt_code (program_in c.args.names.now) (stmt_of c.args.s.now) c.args.exits (scope_in c.args.scope.now) c.args.from l)) c.note_first.ensures in
    stops (same first c.lower_kind.ensures.code) c.in_err-to.was c.from_residual-in_err-to.ensures (no_less _)

pub lower_stmt-lower_kind-requires : goal.lower_stmt-lower_kind-requires
lower_stmt-lower_kind-requires g t c κs within = (omega (arith, c.decreases), within)

pub lower_kind-returns-in-Declare : goal.lower_kind-returns-in-Declare
lower_kind-returns-in-Declare g t c =
    let is = declare_is c.in-Declare.is c.as_slice.ensures in
    record { scope = scope_there (scope_in c.args.scope.now) (scope_in c.lower_declarators.new.scope) c.lower_declarators.result is c.lower_declarators.ensures.scope; code = code_there (program_in c.args.names.now) c.args.exits (scope_in c.args.scope.now) c.args.from (lists_of c.args.lists.now) is c.lower_declarators.ensures.code }

pub lower_kind-returns-in-Do : goal.lower_kind-returns-in-Do
lower_kind-returns-in-Do g t c =
    let is = simple_is c.in-Do.is in
    record { scope = scope_there (scope_in c.args.scope.now) (scope_in c.args.scope.now) c.lower_do.result is (holds c.lower_do.result refl); code = code_there (program_in c.args.names.now) c.args.exits (scope_in c.args.scope.now) c.args.from (lists_of c.args.lists.now) is c.lower_do.ensures }

pub lower_kind-returns-in-Block : goal.lower_kind-returns-in-Block
lower_kind-returns-in-Block g t c =
    let is = block_is c.in-Block.is c.as_slice-in-Block.ensures in
    record { scope = scope_there (scope_in c.args.scope.now) (scope_in c.lower_block.new.scope) c.lower_block.result is c.lower_block.ensures.scope; code = code_there (program_in c.args.names.now) c.args.exits (scope_in c.args.scope.now) c.args.from (lists_of c.args.lists.now) is c.lower_block.ensures.code }

pub lower_kind-returns-in-Print : goal.lower_kind-returns-in-Print
lower_kind-returns-in-Print g t c =
    let is = print_is c.in-Print.is c.as_str.ensures c.as_slice-in-Print.ensures in
    record { scope = scope_there (scope_in c.args.scope.now) (scope_in c.args.scope.now) c.lower_print.result is (holds c.lower_print.result refl); code = code_there (program_in c.args.names.now) c.args.exits (scope_in c.args.scope.now) c.args.from (lists_of c.args.lists.now) is c.lower_print.ensures }

pub lower_kind-returns-in-None : goal.lower_kind-returns-in-None
lower_kind-returns-in-None g t c =
    let is = if_is (c.in-If.is ∙ ap (λ o. own_stmt.If c.in-If.c c.in-If.then o) c.in-None.is) c.get.ensures in
    record { scope = scope_there (scope_in c.args.scope.now) (scope_in c.lower_if.new.scope) c.lower_if.result is c.lower_if.ensures.scope; code = code_there (program_in c.args.names.now) c.args.exits (scope_in c.args.scope.now) c.args.from (lists_of c.args.lists.now) is c.lower_if.ensures.code }

pub lower_kind-returns-in-Some : goal.lower_kind-returns-in-Some
lower_kind-returns-in-Some g t c =
    let is = if_else_is (c.in-If.is ∙ ap (λ o. own_stmt.If c.in-If.c c.in-If.then o) c.in-Some.is) c.get-in-Some.ensures c.get-in-Some-2.ensures in
    record { scope = scope_there (scope_in c.args.scope.now) (scope_in c.lower_if_else.new.scope) c.lower_if_else.result is c.lower_if_else.ensures.scope; code = code_there (program_in c.args.names.now) c.args.exits (scope_in c.args.scope.now) c.args.from (lists_of c.args.lists.now) is c.lower_if_else.ensures.code }

pub lower_kind-returns-in-While : goal.lower_kind-returns-in-While
lower_kind-returns-in-While g t c =
    let is = while_is c.in-While.is c.get-in-While.ensures in
    record { scope = scope_there (scope_in c.args.scope.now) (scope_in c.lower_while.new.scope) c.lower_while.result is c.lower_while.ensures.scope; code = code_there (program_in c.args.names.now) c.args.exits (scope_in c.args.scope.now) c.args.from (lists_of c.args.lists.now) is c.lower_while.ensures.code }

pub lower_kind-returns-in-DoWhile : goal.lower_kind-returns-in-DoWhile
lower_kind-returns-in-DoWhile g t c =
    let is = do_is c.in-DoWhile.is c.get-in-DoWhile.ensures in
    record { scope = scope_there (scope_in c.args.scope.now) (scope_in c.lower_do_while.new.scope) c.lower_do_while.result is c.lower_do_while.ensures.scope; code = code_there (program_in c.args.names.now) c.args.exits (scope_in c.args.scope.now) c.args.from (lists_of c.args.lists.now) is c.lower_do_while.ensures.code }

pub lower_kind-returns-in-For : goal.lower_kind-returns-in-For
lower_kind-returns-in-For g t c =
    let is = for_is c.in-For.is c.get-in-For.ensures c.get-in-For-2.ensures in
    record { scope = scope_there (scope_in c.args.scope.now) (scope_in c.lower_for.new.scope) c.lower_for.result is c.lower_for.ensures.scope; code = code_there (program_in c.args.names.now) c.args.exits (scope_in c.args.scope.now) c.args.from (lists_of c.args.lists.now) is c.lower_for.ensures.code }

pub lower_kind-returns-in-Break : goal.lower_kind-returns-in-Break
lower_kind-returns-in-Break g t c =
    let is = break_is c.in-Break.is in
    record { scope = scope_there (scope_in c.args.scope.now) (scope_in c.args.scope.now) c.leave.result is (holds c.leave.result refl); code = code_there (program_in c.args.names.now) c.args.exits (scope_in c.args.scope.now) c.args.from (lists_of c.args.lists.now) is (c.leave.ensures (lists_of c.args.lists.now)) }

pub lower_kind-returns-in-Continue : goal.lower_kind-returns-in-Continue
lower_kind-returns-in-Continue g t c =
    let is = continue_is c.in-Continue.is in
    record { scope = scope_there (scope_in c.args.scope.now) (scope_in c.args.scope.now) c.leave-in-Continue.result is (holds c.leave-in-Continue.result refl); code = code_there (program_in c.args.names.now) c.args.exits (scope_in c.args.scope.now) c.args.from (lists_of c.args.lists.now) is (c.leave-in-Continue.ensures (lists_of c.args.lists.now)) }

pub lower_kind-returns-in-Return : goal.lower_kind-returns-in-Return
lower_kind-returns-in-Return g t c =
    let is = return_is c.in-Return.is in
    record { scope = scope_there (scope_in c.args.scope.now) (scope_in c.args.scope.now) c.lower_return.result is (holds c.lower_return.result refl); code = code_there (program_in c.args.names.now) c.args.exits (scope_in c.args.scope.now) c.args.from (lists_of c.args.lists.now) is c.lower_return.ensures }

pub lower_kind-returns-in-Transaction : goal.lower_kind-returns-in-Transaction
lower_kind-returns-in-Transaction g t c =
    let is = transaction_is c.in-Transaction.is c.as_slice-all.ensures in
    record { scope = scope_there (scope_in c.args.scope.now) (scope_in c.lower_transaction.new.scope) c.lower_transaction.result is c.lower_transaction.ensures.scope; code = code_there (program_in c.args.names.now) c.args.exits (scope_in c.args.scope.now) c.args.from (lists_of c.args.lists.now) is c.lower_transaction.ensures.code }

pub lower_if-returns-clause-code : goal.lower_if-returns-clause-code
lower_if-returns-clause-code g t c =
    let next = c.in_ok-next.ensures ∙ ap (λ (t : ConditionRegister). t.to + 1) c.in_ok-t.ensures.end in
    let there = ap of_written (λ j. stmt_code (program_in c.args.names.now) (stmt_of c.args.then.now) c.args.exits (scope_in c.args.scope.now) (next j) (c.in_ok-t.ensures.lists j)) in
    let test = gathered c.in_ok-t.ensures c.requires.test c.as_slice.ensures.value in
    let branch = written_alone (same there c.in_ok-to.ensures.code) c.requires.branch in
    same (λ j. of_written (if_code (test j) (branch j))) (record { code = c.in_ok-put_branch.ensures; lists = refl; end = refl; fails = tt })

pub lower_if-returns-in_err-t-clause-code : goal.lower_if-returns-in_err-t-clause-code
lower_if-returns-in_err-t-clause-code g t c =
    let test = condition (program_in c.args.names.now) (scope_in c.args.scope.now) (expr_of c.args.c.now) c.args.from (length (scope_in c.args.scope.now)) (lists_of c.args.lists.now) in
    stops c.lower_head.ensures c.in_err-t.was c.from_residual.ensures (written_more (program_in c.args.names.now) (stmt_of c.args.then.now) c.args.exits (scope_in c.args.scope.now) (test.to + 1) test.lists)

pub lower_if-returns-in_err-to-clause-code : goal.lower_if-returns-in_err-to-clause-code
lower_if-returns-in_err-to-clause-code g t c =
    let next = c.in_ok-next.ensures ∙ ap (λ (t : ConditionRegister). t.to + 1) c.in_ok-t.ensures.end in
    let there = ap of_written (λ j. stmt_code (program_in c.args.names.now) (stmt_of c.args.then.now) c.args.exits (scope_in c.args.scope.now) (next j) (c.in_ok-t.ensures.lists j)) in
    stops (same there c.lower_scoped.ensures.code) c.in_err-to.was c.from_residual-in_err-to.ensures (no_less _)

pub lower_if_else-returns-clause-code : goal.lower_if_else-returns-clause-code
lower_if_else-returns-clause-code g t c =
    let next = c.in_ok-next.ensures ∙ ap (λ (t : ConditionRegister). t.to + 1) c.in_ok-t.ensures.end in
    let there = ap of_written (λ j. stmt_code (program_in c.args.names.now) (stmt_of c.args.then.now) c.args.exits (scope_in c.args.scope.now) (next j) (c.in_ok-t.ensures.lists j)) in
    let test = gathered c.in_ok-t.ensures c.requires.test c.as_slice.ensures.value in
    let first = same there c.in_ok-last.ensures.code in
    let other_at = c.in_ok-other_at.ensures ∙ ap (λ (k : ℕ). k + 1) first.end in
    let apart = ap of_written (λ j. stmt_code (program_in c.args.names.now) (stmt_of c.args.other.now) c.args.exits (c.in_ok-last.ensures.scope j) (other_at j) (first.lists j)) in
    let one = written_alone first c.requires.first in
    let two = written_alone (same apart c.in_ok-to.ensures.code) c.requires.second in
    let code = c.in_ok-put_branches.ensures ∙ (λ j. c.args.code.now.items ++ (going_on (test j).code (c.in_ok-t.ensures.end j) (other_at j) ++ (one j).code ++ own.Jump (two j).to ∷ (two j).code)) in
    record { code = code; lists = ap (λ (w : Written). w.lists) two; end = ap (λ (w : Written). w.to) two; fails = tt }

pub lower_if_else-returns-in_err-t-clause-code : goal.lower_if_else-returns-in_err-t-clause-code
lower_if_else-returns-in_err-t-clause-code g t c =
    stops c.lower_head.ensures c.in_err-t.was c.from_residual.ensures (test_within (program_in c.args.names.now) c.args.exits (scope_in c.args.scope.now) c.args.from (lists_of c.args.lists.now) (expr_of c.args.c.now) (stmt_of c.args.then.now) (stmt_of c.args.other.now))

pub lower_if_else-returns-in_err-last-clause-code : goal.lower_if_else-returns-in_err-last-clause-code
lower_if_else-returns-in_err-last-clause-code g t c =
    let next = c.in_ok-next.ensures ∙ ap (λ (t : ConditionRegister). t.to + 1) c.in_ok-t.ensures.end in
    let there = ap of_written (λ j. stmt_code (program_in c.args.names.now) (stmt_of c.args.then.now) c.args.exits (scope_in c.args.scope.now) (next j) (c.in_ok-t.ensures.lists j)) in
    let test = condition (program_in c.args.names.now) (scope_in c.args.scope.now) (expr_of c.args.c.now) c.args.from (length (scope_in c.args.scope.now)) (lists_of c.args.lists.now) in
    let first = stmt_code (program_in c.args.names.now) (stmt_of c.args.then.now) c.args.exits (scope_in c.args.scope.now) (test.to + 1) test.lists in
    stops (same there c.lower_scoped.ensures.code) c.in_err-last.was c.from_residual-in_err-last.ensures (written_more (program_in c.args.names.now) (stmt_of c.args.other.now) c.args.exits (scope_in c.args.scope.now) (first.to + 1) first.lists)

pub lower_if_else-returns-in_err-to-clause-code : goal.lower_if_else-returns-in_err-to-clause-code
lower_if_else-returns-in_err-to-clause-code g t c =
    let next = c.in_ok-next.ensures ∙ ap (λ (t : ConditionRegister). t.to + 1) c.in_ok-t.ensures.end in
    let there = ap of_written (λ j. stmt_code (program_in c.args.names.now) (stmt_of c.args.then.now) c.args.exits (scope_in c.args.scope.now) (next j) (c.in_ok-t.ensures.lists j)) in
    let first = same there c.in_ok-last.ensures.code in
    let other_at = c.in_ok-other_at.ensures ∙ ap (λ (k : ℕ). k + 1) first.end in
    let apart = ap of_written (λ j. stmt_code (program_in c.args.names.now) (stmt_of c.args.other.now) c.args.exits (c.in_ok-last.ensures.scope j) (other_at j) (first.lists j)) in
    stops (same apart c.lower_scoped-2.ensures.code) c.in_err-to.was c.from_residual-in_err-to.ensures (no_less _)

pub lower_while-returns-clause-code : goal.lower_while-returns-clause-code
lower_while-returns-clause-code g t c =
    let turn = ap of_written (λ j. stmt_code (program_in c.args.names.now) (stmt_of c.args.body.now) ((c.looping-exits.ensures ∙ ap (λ k. looping c.args.exits k c.args.from) c.in_ok-break_at.ensures) j) (scope_in c.args.scope.now) (c.in_ok-start.ensures j) (lists_of c.args.lists.now)) in
    let body = same turn c.in_ok-test_at.ensures.code in
    let test = ap of_written (λ j. tested_back (condition (program_in c.args.names.now) (c.in_ok-test_at.ensures.scope j) (expr_of c.args.c.now) (body.end j) (length (c.in_ok-test_at.ensures.scope j)) (body.lists j)) (c.in_ok-start.ensures j)) in
    let inner = written_alone (in_turn body test c.in_ok-to.ensures) c.requires in
    record { code = c.in_ok-put_while.ensures ∙ (λ j. c.args.code.now.items ++ own.Jump (body.end j) ∷ own.Jump (inner j).to ∷ (inner j).code); lists = ap (λ (w : Written). w.lists) inner; end = ap (λ (w : Written). w.to) inner; fails = tt }

pub lower_while-returns-in_err-test_at-clause-code : goal.lower_while-returns-in_err-test_at-clause-code
lower_while-returns-in_err-test_at-clause-code g t c =
    let turn = ap of_written (λ j. stmt_code (program_in c.args.names.now) (stmt_of c.args.body.now) ((c.looping-exits.ensures ∙ ap (λ k. looping c.args.exits k c.args.from) c.in_ok-break_at.ensures) j) (scope_in c.args.scope.now) (c.in_ok-start.ensures j) (lists_of c.args.lists.now)) in
    let body = stmt_code (program_in c.args.names.now) (stmt_of c.args.body.now) (looping c.args.exits (c.args.from + 1) c.args.from) (scope_in c.args.scope.now) (c.args.from + 2) (lists_of c.args.lists.now) in
    stops (same turn c.lower_scoped.ensures.code) c.in_err-test_at.was c.from_residual-in_err-test_at.ensures (condition_more (program_in c.args.names.now) (scope_in c.args.scope.now) (expr_of c.args.c.now) body.to (length (scope_in c.args.scope.now)) body.lists)

pub lower_while-returns-in_err-to-clause-code : goal.lower_while-returns-in_err-to-clause-code
lower_while-returns-in_err-to-clause-code g t c =
    let turn = ap of_written (λ j. stmt_code (program_in c.args.names.now) (stmt_of c.args.body.now) ((c.looping-exits.ensures ∙ ap (λ k. looping c.args.exits k c.args.from) c.in_ok-break_at.ensures) j) (scope_in c.args.scope.now) (c.in_ok-start.ensures j) (lists_of c.args.lists.now)) in
    let body = same turn c.in_ok-test_at.ensures.code in
    let test = ap of_written (λ j. tested_back (condition (program_in c.args.names.now) (c.in_ok-test_at.ensures.scope j) (expr_of c.args.c.now) (body.end j) (length (c.in_ok-test_at.ensures.scope j)) (body.lists j)) (c.in_ok-start.ensures j)) in
    stops (same test c.lower_back.ensures) c.in_err-to.was c.from_residual-in_err-to.ensures (no_less _)

pub lower_do_while-returns-clause-code : goal.lower_do_while-returns-clause-code
lower_do_while-returns-clause-code g t c =
    let turn = ap of_written (λ j. stmt_code (program_in c.args.names.now) (stmt_of c.args.body.now) ((c.looping-exits.ensures ∙ (λ i. looping c.args.exits (c.in_ok-break_at.ensures i) (c.in_ok-continue_at.ensures i))) j) (scope_in c.args.scope.now) (c.in_ok-start.ensures j) (lists_of c.args.lists.now)) in
    let body = same turn c.in_ok-test_at.ensures.code in
    let test = ap of_written (λ j. tested_back (condition (program_in c.args.names.now) (c.in_ok-test_at.ensures.scope j) (expr_of c.args.c.now) (body.end j) (length (c.in_ok-test_at.ensures.scope j)) (body.lists j)) (c.in_ok-start.ensures j)) in
    let inner = written_alone (in_turn body test c.in_ok-to.ensures) c.requires in
    record { code = c.in_ok-put_loop.ensures ∙ (λ j. c.args.code.now.items ++ own.Jump (c.in_ok-start.ensures j) ∷ own.Jump (inner j).to ∷ own.Jump (body.end j) ∷ (inner j).code); lists = ap (λ (w : Written). w.lists) inner; end = ap (λ (w : Written). w.to) inner; fails = tt }

pub lower_do_while-returns-in_err-test_at-clause-code : goal.lower_do_while-returns-in_err-test_at-clause-code
lower_do_while-returns-in_err-test_at-clause-code g t c =
    let turn = ap of_written (λ j. stmt_code (program_in c.args.names.now) (stmt_of c.args.body.now) ((c.looping-exits.ensures ∙ (λ i. looping c.args.exits (c.in_ok-break_at.ensures i) (c.in_ok-continue_at.ensures i))) j) (scope_in c.args.scope.now) (c.in_ok-start.ensures j) (lists_of c.args.lists.now)) in
    let body = stmt_code (program_in c.args.names.now) (stmt_of c.args.body.now) (looping c.args.exits (c.args.from + 1) (c.args.from + 2)) (scope_in c.args.scope.now) (c.args.from + 3) (lists_of c.args.lists.now) in
    stops (same turn c.lower_scoped.ensures.code) c.in_err-test_at.was c.from_residual-in_err-test_at.ensures (condition_more (program_in c.args.names.now) (scope_in c.args.scope.now) (expr_of c.args.c.now) body.to (length (scope_in c.args.scope.now)) body.lists)

pub lower_do_while-returns-in_err-to-clause-code : goal.lower_do_while-returns-in_err-to-clause-code
lower_do_while-returns-in_err-to-clause-code g t c =
    let turn = ap of_written (λ j. stmt_code (program_in c.args.names.now) (stmt_of c.args.body.now) ((c.looping-exits.ensures ∙ (λ i. looping c.args.exits (c.in_ok-break_at.ensures i) (c.in_ok-continue_at.ensures i))) j) (scope_in c.args.scope.now) (c.in_ok-start.ensures j) (lists_of c.args.lists.now)) in
    let body = same turn c.in_ok-test_at.ensures.code in
    let test = ap of_written (λ j. tested_back (condition (program_in c.args.names.now) (c.in_ok-test_at.ensures.scope j) (expr_of c.args.c.now) (body.end j) (length (c.in_ok-test_at.ensures.scope j)) (body.lists j)) (c.in_ok-start.ensures j)) in
    stops (same test c.lower_back.ensures) c.in_err-to.was c.from_residual-in_err-to.ensures (no_less _)

pub lower_transaction-returns-clause-code : goal.lower_transaction-returns-clause-code
lower_transaction-returns-clause-code g t c =
    let block = ap of_written (λ j. stmts_code (program_in c.args.names.now) (stmts_of c.args.body.now) (c.in_ok-exits.ensures j) (scope_in c.args.scope.now) (c.in_ok-start.ensures j) (lists_of c.args.lists.now)) in
    let inner = written_alone (same block c.in_ok-last.ensures.code) c.requires in
    let to = c.in_ok-to.ensures ∙ ap (λ (w : Written). w.to + 1) inner in
    let code = c.in_ok-put_transaction.ensures ∙ append_assoc c.args.code.now.items _ (own.Commit ∷ []) ∙ (λ j. c.args.code.now.items ++ (own.Begin (to j) ∷ (inner j).code ++ own.Commit ∷ [])) in
    record { code = code; lists = ap (λ (w : Written). w.lists) inner; end = to; fails = tt }

pub lower_transaction-returns-in_err-last-clause-code : goal.lower_transaction-returns-in_err-last-clause-code
lower_transaction-returns-in_err-last-clause-code g t c =
    let block = ap of_written (λ j. stmts_code (program_in c.args.names.now) (stmts_of c.args.body.now) (c.in_ok-exits.ensures j) (scope_in c.args.scope.now) (c.in_ok-start.ensures j) (lists_of c.args.lists.now)) in
    stops (same block c.lower_block.ensures.code) c.in_err-last.was c.from_residual-in_err-last.ensures (no_less _)

pub lower_for-returns-clause-code : goal.lower_for-returns-clause-code
lower_for-returns-clause-code g t c =
    let start = c.in_ok-jumps_at.ensures.code in
    let begin = c.in_ok-start.ensures ∙ ap (λ (k : ℕ). k + 3) start.end in
    let turn = ap of_written (λ j. stmt_code (program_in c.args.names.now) (stmt_of c.args.body.now) ((c.looping-exits.ensures ∙ (λ i. looping c.args.exits ((c.in_ok-break_at.ensures ∙ ap (λ (k : ℕ). k + 1) start.end) i) ((c.in_ok-continue_at.ensures ∙ ap (λ (k : ℕ). k + 2) start.end) i))) j) (c.in_ok-jumps_at.ensures.scope j) (begin j) (start.lists j)) in
    let body = same turn c.in_ok-step_at.ensures.code in
    let inner = c.in_ok-step_at.ensures.scope ∙ c.in_ok-jumps_at.ensures.scope in
    let step = ap of_written (λ j. for_step (program_in c.args.names.now) (inner j) (option_map simple_of c.args.head.now.step) (body.end j) (body.lists j)) in
    let stepped = same step c.in_ok-test_at.ensures in
    let test = ap of_written (λ j. for_test (program_in c.args.names.now) (inner j) (option_map expr_of c.args.head.now.condition) (begin j) (stepped.end j) (stepped.lists j)) in
    for_there (program_in c.args.names.now) c.args.exits (scope_in c.args.scope.now) c.args.from (lists_of c.args.lists.now) (start_of c.args.head.now.start) (option_map expr_of c.args.head.now.condition) (option_map simple_of c.args.head.now.step) (stmt_of c.args.body.now) start body stepped (same test c.in_ok-to.ensures) c.requires c.in_ok-put_loop.ensures

pub lower_for-returns-in_err-jumps_at-clause-code : goal.lower_for-returns-in_err-jumps_at-clause-code
lower_for-returns-in_err-jumps_at-clause-code g t c =
    stops c.lower_start.ensures.code c.in_err-jumps_at.was c.from_residual.ensures (start_within (program_in c.args.names.now) c.args.exits (scope_in c.args.scope.now) c.args.from (lists_of c.args.lists.now) (start_of c.args.head.now.start) (option_map expr_of c.args.head.now.condition) (option_map simple_of c.args.head.now.step) (stmt_of c.args.body.now))

pub lower_for-returns-in_err-step_at-clause-code : goal.lower_for-returns-in_err-step_at-clause-code
lower_for-returns-in_err-step_at-clause-code g t c =
    let start = c.in_ok-jumps_at.ensures.code in
    let begin = c.in_ok-start.ensures ∙ ap (λ (k : ℕ). k + 3) start.end in
    let turn = ap of_written (λ j. stmt_code (program_in c.args.names.now) (stmt_of c.args.body.now) ((c.looping-exits.ensures ∙ (λ i. looping c.args.exits ((c.in_ok-break_at.ensures ∙ ap (λ (k : ℕ). k + 1) start.end) i) ((c.in_ok-continue_at.ensures ∙ ap (λ (k : ℕ). k + 2) start.end) i))) j) (c.in_ok-jumps_at.ensures.scope j) (begin j) (start.lists j)) in
    stops (same turn c.lower_scoped.ensures.code) c.in_err-step_at.was c.from_residual-in_err-step_at.ensures (body_within (program_in c.args.names.now) c.args.exits (scope_in c.args.scope.now) c.args.from (lists_of c.args.lists.now) (start_of c.args.head.now.start) (option_map expr_of c.args.head.now.condition) (option_map simple_of c.args.head.now.step) (stmt_of c.args.body.now))

pub lower_for-returns-in_err-test_at-clause-code : goal.lower_for-returns-in_err-test_at-clause-code
lower_for-returns-in_err-test_at-clause-code g t c =
    let start = c.in_ok-jumps_at.ensures.code in
    let begin = c.in_ok-start.ensures ∙ ap (λ (k : ℕ). k + 3) start.end in
    let turn = ap of_written (λ j. stmt_code (program_in c.args.names.now) (stmt_of c.args.body.now) ((c.looping-exits.ensures ∙ (λ i. looping c.args.exits ((c.in_ok-break_at.ensures ∙ ap (λ (k : ℕ). k + 1) start.end) i) ((c.in_ok-continue_at.ensures ∙ ap (λ (k : ℕ). k + 2) start.end) i))) j) (c.in_ok-jumps_at.ensures.scope j) (begin j) (start.lists j)) in
    let body = same turn c.in_ok-step_at.ensures.code in
    let inner = c.in_ok-step_at.ensures.scope ∙ c.in_ok-jumps_at.ensures.scope in
    let step = ap of_written (λ j. for_step (program_in c.args.names.now) (inner j) (option_map simple_of c.args.head.now.step) (body.end j) (body.lists j)) in
    stops (same step c.lower_step.ensures) c.in_err-test_at.was c.from_residual-in_err-test_at.ensures (step_within (program_in c.args.names.now) c.args.exits (scope_in c.args.scope.now) c.args.from (lists_of c.args.lists.now) (start_of c.args.head.now.start) (option_map expr_of c.args.head.now.condition) (option_map simple_of c.args.head.now.step) (stmt_of c.args.body.now))

pub lower_for-returns-in_err-to-clause-code : goal.lower_for-returns-in_err-to-clause-code
lower_for-returns-in_err-to-clause-code g t c =
    let start = c.in_ok-jumps_at.ensures.code in
    let begin = c.in_ok-start.ensures ∙ ap (λ (k : ℕ). k + 3) start.end in
    let turn = ap of_written (λ j. stmt_code (program_in c.args.names.now) (stmt_of c.args.body.now) ((c.looping-exits.ensures ∙ (λ i. looping c.args.exits ((c.in_ok-break_at.ensures ∙ ap (λ (k : ℕ). k + 1) start.end) i) ((c.in_ok-continue_at.ensures ∙ ap (λ (k : ℕ). k + 2) start.end) i))) j) (c.in_ok-jumps_at.ensures.scope j) (begin j) (start.lists j)) in
    let body = same turn c.in_ok-step_at.ensures.code in
    let inner = c.in_ok-step_at.ensures.scope ∙ c.in_ok-jumps_at.ensures.scope in
    let step = ap of_written (λ j. for_step (program_in c.args.names.now) (inner j) (option_map simple_of c.args.head.now.step) (body.end j) (body.lists j)) in
    let stepped = same step c.in_ok-test_at.ensures in
    let test = ap of_written (λ j. for_test (program_in c.args.names.now) (inner j) (option_map expr_of c.args.head.now.condition) (begin j) (stepped.end j) (stepped.lists j)) in
    stops (same test c.lower_test.ensures) c.in_err-to.was c.from_residual-in_err-to.ensures (no_less _)

pub lower_stmts-body-preserved : goal.lower_stmts-body-preserved
lower_stmts-body-preserved g t c =
    let k = c.in_ok-to.ensures in
    record {
      scope = next_scope c.args.body.now c.body.s-index (scope_in c.body.scope) c.s-item.result _ _ c.body-test.true c.s-item.is k.scope c.body.invariant.scope;
      code = next_stmt (program_in c.args.names.now) c.args.exits c.args.body.now c.body.s-index c.body.to (scope_in c.body.scope) (lists_of c.body.lists) c.body.code.items _ c.s-item.result c.body-test.true c.s-item.is c.body.invariant.code k.scope k.code;
    }

pub lower_stmts-returns-clause-scope : goal.lower_stmts-returns-clause-scope
lower_stmts-returns-clause-scope g t c =
    last_scope c.args.body.now c.body.s-index (scope_in c.body.scope) _ c.body-test.false c.body.invariant.scope

pub lower_stmts-returns-clause-code : goal.lower_stmts-returns-clause-code
lower_stmts-returns-clause-code g t c =
    let all = no_more_stmts (program_in c.args.names.now) c.args.exits c.args.body.now c.body.s-index c.body.to (scope_in c.body.scope) (lists_of c.body.lists) c.body.code.items _ c.body-test.false c.body.invariant.code in
    record { code = ap (λ (w : Written). w.code) all; lists = ap (λ (w : Written). w.lists) all; end = ap (λ (w : Written). w.to) all; fails = tt }

pub lower_stmts-returns-in_err-to-clause-code : goal.lower_stmts-returns-in_err-to-clause-code
lower_stmts-returns-in_err-to-clause-code g t c =
    stops c.lower_stmt.ensures.code c.in_err-to.was c.from_residual.ensures (first_within (program_in c.args.names.now) c.args.exits c.args.body.now c.body.s-index c.body.to (scope_in c.body.scope) (lists_of c.body.lists) c.body.code.items _ c.s-item.result c.body-test.true c.s-item.is c.body.invariant.code)

pub lower_block-returns-clause-scope : goal.lower_block-returns-clause-scope
lower_block-returns-clause-scope g t c = c.leave.ensures ∙ stmts_left (scope_in c.args.scope.now) (scope_in c.lower_stmts.new.scope) c.len-outer.result c.len-outer.ensures (stmts_of c.args.body.now) c.in_ok-to.ensures.scope

pub lower_scoped-returns-clause-scope : goal.lower_scoped-returns-clause-scope
lower_scoped-returns-clause-scope g t c = c.leave.ensures ∙ stmt_left (scope_in c.args.scope.now) (scope_in c.lower_stmt.new.scope) c.len-outer.result c.len-outer.ensures (stmt_of c.args.s.now) c.in_ok-to.ensures.scope

pub lower_for-returns-clause-scope : goal.lower_for-returns-clause-scope
lower_for-returns-clause-scope g t c = c.leave.ensures ∙ start_left (scope_in c.args.scope.now) (scope_in c.lower_scoped.new.scope) c.len-outer.result c.len-outer.ensures (start_of c.args.head.now.start) (c.in_ok-step_at.ensures.scope ∙ c.in_ok-jumps_at.ensures.scope)

pub lower_kind-lower_block-requires : goal.lower_kind-lower_block-requires
lower_kind-lower_block-requires g t c κs within =
    let size = simp the_lemmas at (ap (the_size g.row.A g.A.Allocator g.A.laws) c.in-Block.is) in
    let here = ap (most (the_size g.row.A g.A.Allocator g.A.laws)) c.as_slice-in-Block.ensures in
    (omega (arith, size, here, c.decreases), within)

pub lower_stmts-lower_stmt-requires : goal.lower_stmts-lower_stmt-requires
lower_stmts-lower_stmt-requires g t c κs within =
    let size = the_size g.row.A g.A.Allocator g.A.laws in
    let below = at_most size c.args.body.now c.body.s-index c.s-item.result c.body-test.true in
    let here = ap size c.s-item.is in
    (omega (arith, below, here, c.decreases), within)

pub lower_kind-lower_if-requires : goal.lower_kind-lower_if-requires
lower_kind-lower_if-requires g t c κs within =
    let size = simp the_lemmas at (ap (the_size g.row.A g.A.Allocator g.A.laws) (c.in-If.is ∙ ap (λ o. own_stmt.If c.in-If.c c.in-If.then o) c.in-None.is)) in
    let here = ap (the_size g.row.A g.A.Allocator g.A.laws) c.get.ensures in
    (omega (arith, size, here, c.decreases), (within, (c.new-test.ensures.items, c.new-branch.ensures.items)))

pub lower_kind-lower_if_else-requires : goal.lower_kind-lower_if_else-requires
lower_kind-lower_if_else-requires g t c κs within =
    let some = c.in-If.is ∙ ap (λ o. own_stmt.If c.in-If.c c.in-If.then o) c.in-Some.is in
    let parts = some ∙ (λ j. own_stmt.If c.in-If.c (sym c.get-in-Some.ensures j) (Some (sym c.get-in-Some-2.ensures j))) in
    (omega (arith, c.decreases), (within, (c.new-test-in-Some.ensures.items, (c.new-first.ensures.items, (c.new-second.ensures.items, parts)))))

pub lower_kind-lower_while-requires : goal.lower_kind-lower_while-requires
lower_kind-lower_while-requires g t c κs within =
    let size = simp the_lemmas at (ap (the_size g.row.A g.A.Allocator g.A.laws) c.in-While.is) in
    let here = ap (the_size g.row.A g.A.Allocator g.A.laws) c.get-in-While.ensures in
    (omega (arith, size, here, c.decreases), (within, c.new-inner.ensures.items))

pub lower_kind-lower_do_while-requires : goal.lower_kind-lower_do_while-requires
lower_kind-lower_do_while-requires g t c κs within =
    let size = simp the_lemmas at (ap (the_size g.row.A g.A.Allocator g.A.laws) c.in-DoWhile.is) in
    let here = ap (the_size g.row.A g.A.Allocator g.A.laws) c.get-in-DoWhile.ensures in
    (omega (arith, size, here, c.decreases), (within, c.new-inner-in-DoWhile.ensures.items))

pub lower_kind-lower_for-requires : goal.lower_kind-lower_for-requires
lower_kind-lower_for-requires g t c κs within =
    let size = simp the_lemmas at (ap (the_size g.row.A g.A.Allocator g.A.laws) c.in-For.is) in
    let here = ap (the_size g.row.A g.A.Allocator g.A.laws) c.get-in-For-2.ensures in
    (omega (arith, size, here, c.decreases), (within, c.new-inner-in-For.ensures.items))

pub lower_if-lower_scoped-requires : goal.lower_if-lower_scoped-requires
lower_if-lower_scoped-requires g t c κs within = (omega (arith, c.decreases), within)

pub lower_while-lower_scoped-requires : goal.lower_while-lower_scoped-requires
lower_while-lower_scoped-requires g t c κs within = (omega (arith, c.decreases), within)

pub lower_do_while-lower_scoped-requires : goal.lower_do_while-lower_scoped-requires
lower_do_while-lower_scoped-requires g t c κs within = (omega (arith, c.decreases), within)

pub lower_for-lower_scoped-requires : goal.lower_for-lower_scoped-requires
lower_for-lower_scoped-requires g t c κs within = (omega (arith, c.decreases), within)

pub lower_transaction-lower_block-requires : goal.lower_transaction-lower_block-requires
lower_transaction-lower_block-requires g t c κs within = (omega (arith, c.decreases), within)

pub lower_scoped-lower_stmt-requires : goal.lower_scoped-lower_stmt-requires
lower_scoped-lower_stmt-requires g t c κs within = (omega (arith, c.decreases), within)

pub lower_block-lower_stmts-requires : goal.lower_block-lower_stmts-requires
lower_block-lower_stmts-requires g t c κs within = (omega (arith, c.decreases), within)

pub lower_block-leave-requires : goal.lower_block-leave-requires
lower_block-leave-requires g t c = stmts_longer (scope_in c.args.scope.now) (scope_in c.lower_stmts.new.scope) c.len-outer.result c.len-outer.ensures (stmts_of c.args.body.now) c.in_ok-to.ensures.scope

pub lower_scoped-leave-requires : goal.lower_scoped-leave-requires
lower_scoped-leave-requires g t c = stmt_longer (scope_in c.args.scope.now) (scope_in c.lower_stmt.new.scope) c.len-outer.result c.len-outer.ensures (stmt_of c.args.s.now) c.in_ok-to.ensures.scope

pub lower_for-leave-requires : goal.lower_for-leave-requires
lower_for-leave-requires g t c = start_longer (scope_in c.args.scope.now) (scope_in c.lower_scoped.new.scope) c.len-outer.result c.len-outer.ensures (start_of c.args.head.now.start) (c.in_ok-step_at.ensures.scope ∙ c.in_ok-jumps_at.ensures.scope)

pub lower_kind-lower_transaction-requires : goal.lower_kind-lower_transaction-requires
lower_kind-lower_transaction-requires g t c κs within =
    let size = simp the_lemmas at (ap (the_size g.row.A g.A.Allocator g.A.laws) c.in-Transaction.is) in
    let here = ap (most (the_size g.row.A g.A.Allocator g.A.laws)) c.as_slice-all.ensures in
    (omega (arith, size, here, c.decreases), (within, c.new-inner-in-Transaction.ensures.items))

pub lower_if_else-lower_scoped-requires : goal.lower_if_else-lower_scoped-requires
lower_if_else-lower_scoped-requires g t c κs within =
    let size = simp the_lemmas at (ap (the_size g.row.A g.A.Allocator g.A.laws) c.requires.parts) in
    (omega (arith, size, c.decreases), within)

pub lower_if_else-lower_scoped-requires-2 : goal.lower_if_else-lower_scoped-requires-2
lower_if_else-lower_scoped-requires-2 g t c κs within =
    let size = simp the_lemmas at (ap (the_size g.row.A g.A.Allocator g.A.laws) c.requires.parts) in
    (omega (arith, size, c.decreases), within)
