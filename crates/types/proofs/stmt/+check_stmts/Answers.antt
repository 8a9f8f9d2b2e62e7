use Rattle.std.proofs.Common.{◌+◌, ◌≡◌, ◌++◌, [], ℕ, List, map, take, drop, ap, true, refl, sym, subst, ◌∙◌, arith}
use denote.Param.Weighed.{most, at_most}
use Rattle.std.specs.Option.{option_or}
use Rattle.std.proofs.lemmas.List.{at_drop_all}
use Rattle.syntax.specs.Views.{expr_of, exprs_of, declarator_of, declaration_of, start_of, stmt_of, stmts_of}
use Rattle.syntax.specs.declared.tree.Stmt.{the_lemmas}
use Rattle.syntax.proofs.tree.Stmt.TheLaws.{the_size}
use Rattle.syntax.specs.Typing.{has_name, knows, scope_after, scope_of_start, names_of}
use Rattle.syntax.specs.Typing.{first_unmet, IsNumber, IsTypedPrint, IsTypedStmt, AreTypedStmts, AreTypedDeclarators}
use Rattle.types.specs.inner.Known.{known_in, locals_of, declared_by, AreDeclared, Grows, Agrees}
use Rattle.types.proofs.Steps.{skip, stop_at, tell_skip, tell_stop, tell_rest, tell_same}
use Rattle.types.proofs.Grown.{left, grows_none, grows_on, grows_same, none_declared, agrees_all, same_known, same_declared}
use Rattle.types.proofs.Stmts.{else_first, stmts_more, typed_declare, typed_do, typed_return, typed_block, typed_transaction, typed_print, typed_if, typed_while, typed_do_while, typed_for}
use Rattle.types.proofs.BlockItems.{declaration_is, declared_named, nothing_known, nothing_named, on_ok, ok_any}
use Rattle.types.proofs.stmt.+check_stmts.Goals as goal

pub check_block-returns-in_err-check_stmts-clause-answer : goal.check_block-returns-in_err-check_stmts-clause-answer
check_block-returns-in_err-check_stmts-clause-answer g t c =
    let none = subst (λ n. AreDeclared n c.args.names.now []) (sym c.len-outer.ensures) (none_declared c.args.names.now) in
    tell_same c.check_stmts.result _ c.in_err-check_stmts.field-0.0 _ _ refl (c.check_stmts.ensures.answer [] none) c.in_err-check_stmts.was c.from_residual.ensures

pub check_block-returns-clause-answer : goal.check_block-returns-clause-answer
check_block-returns-clause-answer g t c =
    let none = subst (λ n. AreDeclared n c.args.names.now []) (sym c.len-outer.ensures) (none_declared c.args.names.now) in
    c.in_ok-check_stmts.ensures.answer [] none

pub check_block-returns-clause-same : goal.check_block-returns-clause-same
check_block-returns-clause-same g t c = left c.args.names.now c.check_stmts.new.names c.leave.new.self c.in_ok-check_stmts.ensures.grows (c.leave.ensures.locals ∙ ap (λ n. take n (locals_of c.check_stmts.new.names)) c.len-outer.ensures) c.leave.ensures.file

pub check_stmt-check_stmt-requires : goal.check_stmt-check_stmt-requires
check_stmt-check_stmt-requires g t c κs within =
    let size = simp the_lemmas at (ap (the_size g.row.A g.A.Allocator g.A.laws) c.in-If.is) in
    let here = ap (the_size g.row.A g.A.Allocator g.A.laws) c.get.ensures in
    (omega (arith, size, here, c.decreases), (within, c.requires))

pub check_stmt-check_stmt-requires-in-While : goal.check_stmt-check_stmt-requires-in-While
check_stmt-check_stmt-requires-in-While g t c κs within =
    let size = simp the_lemmas at (ap (the_size g.row.A g.A.Allocator g.A.laws) c.in-While.is) in
    let here = ap (the_size g.row.A g.A.Allocator g.A.laws) c.get-in-While.ensures in
    (omega (arith, size, here, c.decreases), (within, c.requires))

pub check_stmt-check_stmt-requires-in-DoWhile : goal.check_stmt-check_stmt-requires-in-DoWhile
check_stmt-check_stmt-requires-in-DoWhile g t c κs within =
    let size = simp the_lemmas at (ap (the_size g.row.A g.A.Allocator g.A.laws) c.in-DoWhile.is) in
    let here = ap (the_size g.row.A g.A.Allocator g.A.laws) c.get-in-DoWhile.ensures in
    (omega (arith, size, here, c.decreases), (within, c.requires))

pub check_stmt-check_block-requires : goal.check_stmt-check_block-requires
check_stmt-check_block-requires g t c κs within =
    let size = simp the_lemmas at (ap (the_size g.row.A g.A.Allocator g.A.laws) c.in-Block.is) in
    let here = ap (most (the_size g.row.A g.A.Allocator g.A.laws)) c.as_slice.ensures in
    (omega (arith, size, here, c.decreases), within)

pub check_stmt-check_block-requires-in-Transaction : goal.check_stmt-check_block-requires-in-Transaction
check_stmt-check_block-requires-in-Transaction g t c κs within =
    let size = simp the_lemmas at (ap (the_size g.row.A g.A.Allocator g.A.laws) c.in-Transaction.is) in
    let here = ap (most (the_size g.row.A g.A.Allocator g.A.laws)) c.as_slice-in-Transaction.ensures in
    (omega (arith, size, here, c.decreases), within)

pub check_stmt-returns-in-Block-clause-answer : goal.check_stmt-returns-in-Block-clause-answer
check_stmt-returns-in-Block-clause-answer g t c = λ declared h.
    let k = known_in c.args.names.now in
    let x = c.args.context in
    tell_rest c.check_block.result _ _ (typed_block x.gives k declared x.looping c.args.stmt.now c.in-Block.body c.in-Block.is ∙ ap (λ ss. first_unmet (AreTypedStmts x.gives (stmts_of ss) k [] x.looping)) (sym c.as_slice.ensures)) c.check_block.ensures.answer

pub check_stmt-returns-in-Transaction-clause-answer : goal.check_stmt-returns-in-Transaction-clause-answer
check_stmt-returns-in-Transaction-clause-answer g t c = λ declared h.
    let k = known_in c.args.names.now in
    let x = c.args.context in
    tell_rest c.check_block-in-Transaction.result _ _ (typed_transaction x.gives k declared x.looping c.args.stmt.now c.in-Transaction.field-0 c.in-Transaction.body c.in-Transaction.field-2 c.in-Transaction.is ∙ ap (λ ss. first_unmet (AreTypedStmts x.gives (stmts_of ss) k [] x.looping)) (sym c.as_slice-in-Transaction.ensures)) c.check_block-in-Transaction.ensures.answer

pub check_stmt-returns-in-Print-clause-answer : goal.check_stmt-returns-in-Print-clause-answer
check_stmt-returns-in-Print-clause-answer g t c = λ declared h.
    let k = known_in c.args.names.now in
    let x = c.args.context in
    let is = typed_print x.gives k declared x.looping c.args.stmt.now c.in-Print.field-0 c.in-Print.format c.in-Print.span c.in-Print.args c.in-Print.is in
    let same : first_unmet (IsTypedPrint k c.as_str.result.now c.in-Print.span (exprs_of c.as_slice-in-Print.result.now)) ≡ first_unmet (IsTypedPrint k c.in-Print.format c.in-Print.span (exprs_of c.in-Print.args)) = (λ i. first_unmet (IsTypedPrint k (c.as_str.ensures i) c.in-Print.span (exprs_of (c.as_slice-in-Print.ensures i)))) in
    tell_rest c.as_failure-in-Print.result _ _ (is ∙ sym (c.check_print.ensures ∙ same)) c.as_failure-in-Print.ensures

pub check_stmt-returns-in-Print-clause-same : goal.check_stmt-returns-in-Print-clause-same
check_stmt-returns-in-Print-clause-same g t c = ok_any c.as_failure-in-Print.result (Agrees c.args.names.now c.args.names.now) (agrees_all c.args.names.now)

pub check_stmt-returns-in_err-check_number-in-If-clause-answer : goal.check_stmt-returns-in_err-check_number-in-If-clause-answer
check_stmt-returns-in_err-check_number-in-If-clause-answer g t c = λ declared h.
    let k = known_in c.args.names.now in
    let x = c.args.context in
    let is = typed_if x.gives k declared x.looping c.args.stmt.now c.in-If.c c.in-If.a c.in-If.b c.in-If.is in
    stop_at c.check_number.result _ c.in_err-check_number-in-If.field-0.0 _ _ _ is c.check_number.ensures c.in_err-check_number-in-If.was c.from_residual.ensures

pub check_stmt-returns-in_err-check_stmt-in-If-clause-answer : goal.check_stmt-returns-in_err-check_stmt-in-If-clause-answer
check_stmt-returns-in_err-check_stmt-in-If-clause-answer g t c = λ declared h.
    let k = known_in c.args.names.now in
    let x = c.args.context in
    let is = typed_if x.gives k declared x.looping c.args.stmt.now c.in-If.c c.in-If.a c.in-If.b c.in-If.is in
    let rest = skip c.check_number.result _ _ _ _ is c.check_number.ensures c.in_ok-check_number-in-If.was in
    let at_a = ap (λ s. option_or (first_unmet (IsTypedStmt x.gives (stmt_of s) k declared x.looping)) (else_first x.gives k declared x.looping c.args.stmt.now c.in-If.b)) (sym c.get.ensures) in
    tell_stop c.check_stmt.result _ c.in_err-check_stmt-in-If.field-0.0 _ _ _ (rest ∙ at_a) (c.check_stmt.ensures.answer declared h) c.in_err-check_stmt-in-If.was c.from_residual-in_err-check_stmt-in-If.ensures

pub check_stmt-returns-in-None-clause-answer : goal.check_stmt-returns-in-None-clause-answer
check_stmt-returns-in-None-clause-answer g t c = λ declared h.
    let k = known_in c.args.names.now in
    let x = c.args.context in
    let is = typed_if x.gives k declared x.looping c.args.stmt.now c.in-If.c c.in-If.a c.in-If.b c.in-If.is in
    let rest = skip c.check_number.result _ _ _ _ is c.check_number.ensures c.in_ok-check_number-in-If.was in
    let at_a = ap (λ s. option_or (first_unmet (IsTypedStmt x.gives (stmt_of s) k declared x.looping)) (else_first x.gives k declared x.looping c.args.stmt.now c.in-If.b)) (sym c.get.ensures) in
    let last = tell_skip c.check_stmt.result _ _ _ _ (rest ∙ at_a) (c.check_stmt.ensures.answer declared h) c.in_ok-check_stmt-in-If.was in
    sym (last ∙ ap (else_first x.gives k declared x.looping c.args.stmt.now) c.in-None.is)

pub check_stmt-returns-in-Some-clause-answer : goal.check_stmt-returns-in-Some-clause-answer
check_stmt-returns-in-Some-clause-answer g t c = λ declared h.
    let old = c.args.names.now in
    let new = c.check_stmt.new.names in
    let same = c.in_ok-check_stmt-in-If.ensures.same in
    let k = known_in old in
    let x = c.args.context in
    let is = typed_if x.gives k declared x.looping c.args.stmt.now c.in-If.c c.in-If.a c.in-If.b c.in-If.is in
    let rest = skip c.check_number.result _ _ _ _ is c.check_number.ensures c.in_ok-check_number-in-If.was in
    let at_a = ap (λ s. option_or (first_unmet (IsTypedStmt x.gives (stmt_of s) k declared x.looping)) (else_first x.gives k declared x.looping c.args.stmt.now c.in-If.b)) (sym c.get.ensures) in
    let last = tell_skip c.check_stmt.result _ _ _ _ (rest ∙ at_a) (c.check_stmt.ensures.answer declared h) c.in_ok-check_stmt-in-If.was in
    let at_b : first_unmet (IsTypedStmt x.gives (stmt_of c.get-in-Some.result.now) (known_in new) declared x.looping) ≡ first_unmet (IsTypedStmt x.gives (stmt_of c.in-Some.b) k declared x.looping) = (λ i. first_unmet (IsTypedStmt x.gives (stmt_of (c.get-in-Some.ensures i)) (same_known old new same i) declared x.looping)) in
    tell_rest c.check_stmt-in-Some.result _ _ (last ∙ ap (else_first x.gives k declared x.looping c.args.stmt.now) c.in-Some.is ∙ sym at_b) (c.check_stmt-in-Some.ensures.answer declared (same_declared old new x.start declared same h))

pub check_stmt-returns-in_err-check_number-in-While-clause-answer : goal.check_stmt-returns-in_err-check_number-in-While-clause-answer
check_stmt-returns-in_err-check_number-in-While-clause-answer g t c = λ declared h.
    let k = known_in c.args.names.now in
    let x = c.args.context in
    let is = typed_while x.gives k declared x.looping c.args.stmt.now c.in-While.c c.in-While.body c.in-While.is in
    stop_at c.check_number-in-While.result _ c.in_err-check_number-in-While.field-0.0 _ _ _ is c.check_number-in-While.ensures c.in_err-check_number-in-While.was c.from_residual-in_err-check_number-in-While.ensures

pub check_stmt-returns-in_ok-check_number-in-While-clause-answer : goal.check_stmt-returns-in_ok-check_number-in-While-clause-answer
check_stmt-returns-in_ok-check_number-in-While-clause-answer g t c = λ declared h.
    let k = known_in c.args.names.now in
    let x = c.args.context in
    let is = typed_while x.gives k declared x.looping c.args.stmt.now c.in-While.c c.in-While.body c.in-While.is in
    let rest = skip c.check_number-in-While.result _ _ _ _ is c.check_number-in-While.ensures c.in_ok-check_number-in-While.was in
    tell_rest c.check_stmt-in-While.result _ _ (rest ∙ ap (λ s. first_unmet (IsTypedStmt x.gives (stmt_of s) k declared true)) (sym c.get-in-While.ensures)) (c.check_stmt-in-While.ensures.answer declared h)

pub check_stmt-returns-in_err-check_stmt-in-DoWhile-clause-answer : goal.check_stmt-returns-in_err-check_stmt-in-DoWhile-clause-answer
check_stmt-returns-in_err-check_stmt-in-DoWhile-clause-answer g t c = λ declared h.
    let k = known_in c.args.names.now in
    let x = c.args.context in
    let is = typed_do_while x.gives k declared x.looping c.args.stmt.now c.in-DoWhile.body c.in-DoWhile.c c.in-DoWhile.is in
    let at_a = ap (λ s. option_or (first_unmet (IsTypedStmt x.gives (stmt_of s) k declared true)) (first_unmet (IsNumber k (expr_of c.in-DoWhile.c)))) (sym c.get-in-DoWhile.ensures) in
    tell_stop c.check_stmt-in-DoWhile.result _ c.in_err-check_stmt-in-DoWhile.field-0.0 _ _ _ (is ∙ at_a) (c.check_stmt-in-DoWhile.ensures.answer declared h) c.in_err-check_stmt-in-DoWhile.was c.from_residual-in_err-check_stmt-in-DoWhile.ensures

pub check_stmt-returns-in_ok-check_stmt-in-DoWhile-clause-answer : goal.check_stmt-returns-in_ok-check_stmt-in-DoWhile-clause-answer
check_stmt-returns-in_ok-check_stmt-in-DoWhile-clause-answer g t c = λ declared h.
    let old = c.args.names.now in
    let new = c.check_stmt-in-DoWhile.new.names in
    let same = c.in_ok-check_stmt-in-DoWhile.ensures.same in
    let k = known_in old in
    let x = c.args.context in
    let is = typed_do_while x.gives k declared x.looping c.args.stmt.now c.in-DoWhile.body c.in-DoWhile.c c.in-DoWhile.is in
    let at_a = ap (λ s. option_or (first_unmet (IsTypedStmt x.gives (stmt_of s) k declared true)) (first_unmet (IsNumber k (expr_of c.in-DoWhile.c)))) (sym c.get-in-DoWhile.ensures) in
    let last = tell_skip c.check_stmt-in-DoWhile.result _ _ _ _ (is ∙ at_a) (c.check_stmt-in-DoWhile.ensures.answer declared h) c.in_ok-check_stmt-in-DoWhile.was in
    tell_rest c.as_failure-in-DoWhile.result _ _ (last ∙ sym (c.check_number-in-DoWhile.ensures ∙ ap (λ s. first_unmet (IsNumber s (expr_of c.in-DoWhile.c))) (same_known old new same))) c.as_failure-in-DoWhile.ensures

pub check_stmt-returns-in_err-check_head-in-For-clause-answer : goal.check_stmt-returns-in_err-check_head-in-For-clause-answer
check_stmt-returns-in_err-check_head-in-For-clause-answer g t c = λ declared h.
    let k = known_in c.args.names.now in
    let x = c.args.context in
    let is = typed_for x.gives k declared x.looping c.args.stmt.now c.in-For.head c.get-in-For.result.now c.in-For.body c.in-For.is c.get-in-For.ensures in
    tell_stop c.check_head.result _ c.in_err-check_head-in-For.field-0.0 _ _ _ is c.check_head.ensures.answer c.in_err-check_head-in-For.was c.from_residual-in_err-check_head-in-For.ensures

pub check_stmt-returns-in_err-check_stmt-in-For-clause-answer : goal.check_stmt-returns-in_err-check_stmt-in-For-clause-answer
check_stmt-returns-in_err-check_stmt-in-For-clause-answer g t c = λ declared h.
    let k = known_in c.args.names.now in
    let new = c.check_head.new.names in
    let x = c.args.context in
    let is = typed_for x.gives k declared x.looping c.args.stmt.now c.in-For.head c.get-in-For.result.now c.in-For.body c.in-For.is c.get-in-For.ensures in
    let rest = tell_skip c.check_head.result _ _ _ _ is c.check_head.ensures.answer c.in_ok-check_head-in-For.was in
    let none = subst (λ n. AreDeclared n new []) (sym c.len.ensures) (none_declared new) in
    let at_a : first_unmet (IsTypedStmt x.gives (stmt_of c.get-in-For-2.result.now) (known_in new) [] true) ≡ first_unmet (IsTypedStmt x.gives (stmt_of c.in-For.body) (scope_of_start (start_of c.get-in-For.result.now.start) k) [] true) = (λ i. first_unmet (IsTypedStmt x.gives (stmt_of (c.get-in-For-2.ensures i)) (c.in_ok-check_head-in-For.ensures.known i) [] true)) in
    tell_same c.check_stmt-in-For.result _ c.in_err-check_stmt-in-For.field-0.0 _ _ (at_a ∙ sym rest) (c.check_stmt-in-For.ensures.answer [] none) c.in_err-check_stmt-in-For.was c.from_residual-in_err-check_stmt-in-For.ensures

pub check_stmt-returns-in_ok-check_stmt-in-For-clause-answer : goal.check_stmt-returns-in_ok-check_stmt-in-For-clause-answer
check_stmt-returns-in_ok-check_stmt-in-For-clause-answer g t c = λ declared h.
    let k = known_in c.args.names.now in
    let new = c.check_head.new.names in
    let x = c.args.context in
    let is = typed_for x.gives k declared x.looping c.args.stmt.now c.in-For.head c.get-in-For.result.now c.in-For.body c.in-For.is c.get-in-For.ensures in
    let rest = tell_skip c.check_head.result _ _ _ _ is c.check_head.ensures.answer c.in_ok-check_head-in-For.was in
    let none = subst (λ n. AreDeclared n new []) (sym c.len.ensures) (none_declared new) in
    let at_a : first_unmet (IsTypedStmt x.gives (stmt_of c.get-in-For-2.result.now) (known_in new) [] true) ≡ first_unmet (IsTypedStmt x.gives (stmt_of c.in-For.body) (scope_of_start (start_of c.get-in-For.result.now.start) k) [] true) = (λ i. first_unmet (IsTypedStmt x.gives (stmt_of (c.get-in-For-2.ensures i)) (c.in_ok-check_head-in-For.ensures.known i) [] true)) in
    c.in_ok-check_stmt-in-For.ensures.answer [] none ∙ at_a ∙ sym rest

pub check_stmt-returns-in_ok-check_stmt-in-For-clause-same : goal.check_stmt-returns-in_ok-check_stmt-in-For-clause-same
check_stmt-returns-in_ok-check_stmt-in-For-clause-same g t c =
    let old = c.args.names.now in
    let mid = c.check_head.new.names in
    let new = c.check_stmt-in-For.new.names in
    let grown = grows_on old mid new c.in_ok-check_head-in-For.ensures.count c.in_ok-check_head-in-For.ensures.grows (grows_same mid new c.in_ok-check_stmt-in-For.ensures.same) in
    left old new c.leave.new.self grown (c.leave.ensures.locals ∙ ap (λ n. take n (locals_of new)) c.len-outer.ensures) c.leave.ensures.file

pub check_stmt-returns-in-Declare-clause-answer : goal.check_stmt-returns-in-Declare-clause-answer
check_stmt-returns-in-Declare-clause-answer g t c = λ declared h.
    let x = c.args.context in
    tell_rest c.check_lone.result _ _ (typed_declare x.gives (known_in c.args.names.now) declared x.looping c.args.stmt.now c.in-Declare.one c.in-Declare.is) (c.check_lone.ensures.answer declared h)

pub check_stmt-returns-in-Declare-clause-same : goal.check_stmt-returns-in-Declare-clause-same
check_stmt-returns-in-Declare-clause-same g t c = c.check_lone.ensures.same

pub check_stmt-returns-in-Do-clause-answer : goal.check_stmt-returns-in-Do-clause-answer
check_stmt-returns-in-Do-clause-answer g t c = λ declared h.
    let x = c.args.context in
    tell_rest c.as_failure.result _ _ (typed_do x.gives (known_in c.args.names.now) declared x.looping c.args.stmt.now c.in-Do.s c.in-Do.is ∙ sym c.check_simple.ensures) c.as_failure.ensures

pub check_stmt-returns-in-Do-clause-same : goal.check_stmt-returns-in-Do-clause-same
check_stmt-returns-in-Do-clause-same g t c = ok_any c.as_failure.result (Agrees c.args.names.now c.args.names.now) (agrees_all c.args.names.now)

pub check_stmt-returns-in-Return-clause-answer : goal.check_stmt-returns-in-Return-clause-answer
check_stmt-returns-in-Return-clause-answer g t c = λ declared h.
    let x = c.args.context in
    tell_rest c.as_failure-in-Return.result _ _ (typed_return x.gives (known_in c.args.names.now) declared x.looping c.args.stmt.now c.in-Return.e c.in-Return.span c.in-Return.is ∙ sym c.check_return.ensures) c.as_failure-in-Return.ensures

pub check_stmt-returns-in-Return-clause-same : goal.check_stmt-returns-in-Return-clause-same
check_stmt-returns-in-Return-clause-same g t c = ok_any c.as_failure-in-Return.result (Agrees c.args.names.now c.args.names.now) (agrees_all c.args.names.now)

pub check_stmt-returns-in-Block-clause-same : goal.check_stmt-returns-in-Block-clause-same
check_stmt-returns-in-Block-clause-same g t c = c.check_block.ensures.same

pub check_stmt-returns-in-Transaction-clause-same : goal.check_stmt-returns-in-Transaction-clause-same
check_stmt-returns-in-Transaction-clause-same g t c = c.check_block-in-Transaction.ensures.same

pub check_stmt-returns-in_ok-check_number-in-While-clause-same : goal.check_stmt-returns-in_ok-check_number-in-While-clause-same
check_stmt-returns-in_ok-check_number-in-While-clause-same g t c = c.check_stmt-in-While.ensures.same

pub check_stmt-returns-in_ok-check_stmt-in-DoWhile-clause-same : goal.check_stmt-returns-in_ok-check_stmt-in-DoWhile-clause-same
check_stmt-returns-in_ok-check_stmt-in-DoWhile-clause-same g t c = ok_any c.as_failure-in-DoWhile.result (Agrees c.args.names.now c.check_stmt-in-DoWhile.new.names) c.in_ok-check_stmt-in-DoWhile.ensures.same

pub check_stmts-check_block_item-requires : goal.check_stmts-check_block_item-requires
check_stmts-check_block_item-requires g t c κs within =
    let size = the_size g.row.A g.A.Allocator g.A.laws in
    let below = at_most size c.args.all.now c.each.one-index c.one-item.result c.each-test.true in
    let here = ap size c.one-item.is in
    let count = c.each.invariant.0 in
    let start = c.requires in
    (omega (arith, below, here, c.decreases), (within, omega (arith, count, start)))

pub check_stmts-returns-in_err-check_block_item-clause-answer : goal.check_stmts-returns-in_err-check_block_item-clause-answer
check_stmts-returns-in_err-check_block_item-clause-answer g t c = λ declared h.
    let x = c.args.context in
    let p = c.each.invariant.2 declared h in
    tell_stop c.check_block_item.result _ c.in_err-check_block_item.field-0.0 _ _ _ (sym p.2 ∙ stmts_more x.gives x.looping (known_in c.each.names) p.0 c.args.all.now c.each.one-index c.one-item.result c.one-item.is c.each-test.true) (c.check_block_item.ensures.answer p.0 p.1) c.in_err-check_block_item.was c.from_residual.ensures

pub check_stmts-each-init : goal.check_stmts-each-init
check_stmts-each-init g t c = (omega arith, grows_none c.args.names.now, λ declared h. (declared, h, refl))

pub check_stmts-each-preserved : goal.check_stmts-each-preserved
check_stmts-each-preserved g t c =
    let x = c.args.context in
    let ss = c.args.all.now in
    let i = c.each.one-index in
    let s = c.one-item.result in
    let now = c.each.names in
    let new = c.check_block_item.new.names in
    let inv = c.each.invariant in
    let ok = c.in_ok-check_block_item.ensures in (
      omega (arith, inv.0, ok.count),
      grows_on c.args.names.now now new inv.0 inv.1 ok.grows,
      λ declared h. let p = inv.2 declared h in (
        names_of (stmt_of s) ++ p.0,
        ok.declared p.0 p.1,
        ap (λ k. first_unmet (AreTypedStmts x.gives (stmts_of (drop (i + 1) ss)) k (names_of (stmt_of s) ++ p.0) x.looping)) ok.known
            ∙ sym (tell_skip c.check_block_item.result _ _ _ _ (stmts_more x.gives x.looping (known_in now) p.0 ss i s c.one-item.is c.each-test.true) (c.check_block_item.ensures.answer p.0 p.1) c.in_ok-check_block_item.was)
            ∙ p.2,
      ),
    )

pub check_stmts-returns-clause-answer : goal.check_stmts-returns-clause-answer
check_stmts-returns-clause-answer g t c = λ declared h.
    let x = c.args.context in
    let p = c.each.invariant.2 declared h in
    sym (at_drop_all (λ xs. first_unmet (AreTypedStmts x.gives (stmts_of xs) (known_in c.each.names) p.0 x.looping)) c.args.all.now c.each.one-index c.each-test.false) ∙ p.2

pub check_block_item-returns-in-Some-clause-answer : goal.check_block_item-returns-in-Some-clause-answer
check_block_item-returns-in-Some-clause-answer g t c = λ declared h.
    let k = known_in c.args.names.now in
    let x = c.args.context in
    let one = c.in-Some.one.now in
    let is = declaration_is (stmt_of c.args.stmt.now) (declaration_of one) (sym c.in-Some.ensures) in
    tell_rest c.check_declarators.result _ _ (ap (λ s. first_unmet (IsTypedStmt x.gives s k declared x.looping)) is ∙ ap (λ ds. first_unmet (AreTypedDeclarators k declared one.ty (map declarator_of ds))) (sym c.as_slice.ensures)) (c.check_declarators.ensures.answer declared h)

pub check_block_item-returns-in-Some-clause-known : goal.check_block_item-returns-in-Some-clause-known
check_block_item-returns-in-Some-clause-known g t c =
    let k = known_in c.args.names.now in
    let one = c.in-Some.one.now in
    let is = declaration_is (stmt_of c.args.stmt.now) (declaration_of one) (sym c.in-Some.ensures) in
    on_ok c.check_declarators.result (known_in c.check_declarators.new.names ≡ knows one.ty (map declarator_of c.as_slice.result.now) k) (known_in c.check_declarators.new.names ≡ scope_after (stmt_of c.args.stmt.now) k) c.check_declarators.ensures.known (λ e. e ∙ ap (λ ds. knows one.ty (map declarator_of ds) k) c.as_slice.ensures ∙ sym (ap (λ s. scope_after s k) is))

pub check_block_item-returns-in-Some-clause-declared : goal.check_block_item-returns-in-Some-clause-declared
check_block_item-returns-in-Some-clause-declared g t c =
    let x = c.args.context in
    let one = c.in-Some.one.now in
    let new = c.check_declarators.new.names in
    let s = stmt_of c.args.stmt.now in
    let is = declaration_is s (declaration_of one) (sym c.in-Some.ensures) in
    on_ok c.check_declarators.result ((declared : List (List ℕ)) → AreDeclared x.start c.args.names.now declared → AreDeclared x.start new (declared_by (map declarator_of c.as_slice.result.now) declared)) ((declared : List (List ℕ)) → AreDeclared x.start c.args.names.now declared → AreDeclared x.start new (names_of s ++ declared)) c.check_declarators.ensures.declared
    (λ f declared h y. f declared h y ∙ ap (λ ds. has_name (declared_by (map declarator_of ds) declared) y) c.as_slice.ensures ∙ declared_named (map declarator_of one.declarators) declared y ∙ sym (ap (λ a. has_name (names_of a ++ declared) y) is))

pub check_block_item-returns-in-None-clause-known : goal.check_block_item-returns-in-None-clause-known
check_block_item-returns-in-None-clause-known g t c =
    let old = c.args.names.now in
    let new = c.check_stmt.new.names in
    let s = stmt_of c.args.stmt.now in
    on_ok c.check_stmt.result (Agrees old new) (known_in new ≡ scope_after s (known_in old)) c.check_stmt.ensures.same (λ a. same_known old new a ∙ sym (nothing_known s (known_in old) (sym c.in-None.ensures)))

pub check_block_item-returns-in-None-clause-declared : goal.check_block_item-returns-in-None-clause-declared
check_block_item-returns-in-None-clause-declared g t c =
    let x = c.args.context in
    let old = c.args.names.now in
    let new = c.check_stmt.new.names in
    let s = stmt_of c.args.stmt.now in
    on_ok c.check_stmt.result (Agrees old new) ((declared : List (List ℕ)) → AreDeclared x.start old declared → AreDeclared x.start new (names_of s ++ declared)) c.check_stmt.ensures.same (λ a declared h. subst (AreDeclared x.start new) (sym (nothing_named s declared (sym c.in-None.ensures))) (same_declared old new x.start declared a h))

pub check_block_item-returns-in-None-clause-grows : goal.check_block_item-returns-in-None-clause-grows
check_block_item-returns-in-None-clause-grows g t c = on_ok c.check_stmt.result (Agrees c.args.names.now c.check_stmt.new.names) (Grows c.args.names.now c.check_stmt.new.names) c.check_stmt.ensures.same (grows_same c.args.names.now c.check_stmt.new.names)
