use Rattle.std.proofs.Common.{◌++◌, [], ap, sym, refl, ◌∙◌, append_assoc, arith, option_map}
use denote.Param.Weighed.{most, at_most}
use Rattle.std.proofs.lemmas.List.{at_drop_all, append-nil}
use Rattle.std.proofs.lemmas.Result.{on_ok_weaker}
use Rattle.syntax.specs.Views.{expr_of, simple_of, start_of, stmt_of, stmts_of}
use Rattle.syntax.specs.Typing.{names_of}
use Rattle.syntax.specs.declared.tree.Stmt.{the_lemmas}
use Rattle.syntax.proofs.tree.Stmt.TheLaws.{the_size}
use Rattle.safety.specs.Sites.{names_of_start, stmts_sites}
use Rattle.safety.specs.inner.Known.{names_in, around, around_in}
use Rattle.safety.specs.inner.Walks.{head_sites}
use Rattle.safety.proofs.Named.{left, room}
use Rattle.safety.proofs.Walks.{two, same, where_ok, next, done, declare_sites, do_sites, block_sites, print_sites, while_sites, do_while_sites, return_sites, cancel_sites, cancel_outer_sites, transaction_sites, for_sites, body_behind, stmts_more, kind_anywhere, item_sites, item_names}
use Rattle.safety.proofs.stmt.+add_stmt.Goals as goal

pub add_stmt-add_stmt-requires : goal.add_stmt-add_stmt-requires
add_stmt-add_stmt-requires g t c κs within =
    let size = simp the_lemmas at (ap (the_size g.row.A g.A.Allocator g.A.laws) c.in-If.is) in
    let here = ap (the_size g.row.A g.A.Allocator g.A.laws) c.get.ensures in
    (omega (arith, size, here, c.decreases), within)

pub add_stmt-add_stmt-requires-in-While : goal.add_stmt-add_stmt-requires-in-While
add_stmt-add_stmt-requires-in-While g t c κs within =
    let size = simp the_lemmas at (ap (the_size g.row.A g.A.Allocator g.A.laws) c.in-While.is) in
    let here = ap (the_size g.row.A g.A.Allocator g.A.laws) c.get-in-While.ensures in
    (omega (arith, size, here, c.decreases), within)

pub add_stmt-add_stmt-requires-in-DoWhile : goal.add_stmt-add_stmt-requires-in-DoWhile
add_stmt-add_stmt-requires-in-DoWhile g t c κs within =
    let size = simp the_lemmas at (ap (the_size g.row.A g.A.Allocator g.A.laws) c.in-DoWhile.is) in
    let here = ap (the_size g.row.A g.A.Allocator g.A.laws) c.get-in-DoWhile.ensures in
    (omega (arith, size, here, c.decreases), within)

pub add_stmt-add_stmt-requires-in-For : goal.add_stmt-add_stmt-requires-in-For
add_stmt-add_stmt-requires-in-For g t c κs within =
    let size = simp the_lemmas at (ap (the_size g.row.A g.A.Allocator g.A.laws) c.in-For.is) in
    let here = ap (the_size g.row.A g.A.Allocator g.A.laws) c.get-in-For-2.ensures in
    (omega (arith, size, here, c.decreases), within)

pub add_stmt-add_block-requires : goal.add_stmt-add_block-requires
add_stmt-add_block-requires g t c κs within =
    let size = simp the_lemmas at (ap (the_size g.row.A g.A.Allocator g.A.laws) c.in-Block.is) in
    let here = ap (most (the_size g.row.A g.A.Allocator g.A.laws)) c.as_slice.ensures in
    (omega (arith, size, here, c.decreases), within)

pub add_stmt-add_block-requires-in-Transaction : goal.add_stmt-add_block-requires-in-Transaction
add_stmt-add_block-requires-in-Transaction g t c κs within =
    let size = simp the_lemmas at (ap (the_size g.row.A g.A.Allocator g.A.laws) c.in-Transaction.is) in
    let here = ap (most (the_size g.row.A g.A.Allocator g.A.laws)) c.as_slice-in-Transaction.ensures in
    (omega (arith, size, here, c.decreases), within)

pub add_block_item-add_stmt-requires : goal.add_block_item-add_stmt-requires
add_block_item-add_stmt-requires g t c κs within = (omega (arith, c.decreases), within)

pub add_stmt-returns-in-Declare : goal.add_stmt-returns-in-Declare
add_stmt-returns-in-Declare g t c =
    let w = around_in c.args.locals.now c.args.surroundings in
    record {
      sites = on_ok_weaker c.add_lone_declaration.result (same c.args.sites.now c.add_lone_declaration.new.sites _ _ (declare_sites w c.args.stmt.now c.in-Declare.one c.in-Declare.is)) c.add_lone_declaration.ensures.sites;
      names = c.add_lone_declaration.ensures.names;
    }

pub add_stmt-returns-in-Do : goal.add_stmt-returns-in-Do
add_stmt-returns-in-Do g t c =
    let w = around_in c.args.locals.now c.args.surroundings in
    record {
      sites = on_ok_weaker c.add_simple.result (same c.args.sites.now c.add_simple.new.sites _ _ (do_sites w c.args.stmt.now c.in-Do.s c.in-Do.is)) c.add_simple.ensures;
      names = where_ok c.add_simple.result refl;
    }

pub add_stmt-returns-in-Block : goal.add_stmt-returns-in-Block
add_stmt-returns-in-Block g t c =
    let w = around_in c.args.locals.now c.args.surroundings in
    record {
      sites = on_ok_weaker c.add_block.result (same c.args.sites.now c.add_block.new.sites _ _ (block_sites w c.args.stmt.now c.in-Block.body c.as_slice.result.now c.in-Block.is c.as_slice.ensures)) c.add_block.ensures.sites;
      names = c.add_block.ensures.names;
    }

pub add_stmt-returns-in_ok-add-in-Print : goal.add_stmt-returns-in_ok-add-in-Print
add_stmt-returns-in_ok-add-in-Print g t c =
    let w = around_in c.args.locals.now c.args.surroundings in
    record {
      sites = on_ok_weaker c.add_exprs.result (two c.args.sites.now c.add.new.sites c.add_exprs.new.sites _ _ _ (print_sites w c.args.stmt.now c.in-Print.span c.in-Print.field-1 c.in-Print.field-2 c.in-Print.args c.as_slice-in-Print.result.now c.in-Print.is c.as_slice-in-Print.ensures) c.in_ok-add-in-Print.ensures) c.add_exprs.ensures;
      names = where_ok c.add_exprs.result refl;
    }

pub add_stmt-returns-in_ok-add_expr-in-While : goal.add_stmt-returns-in_ok-add_expr-in-While
add_stmt-returns-in_ok-add_expr-in-While g t c =
    let w = around_in c.args.locals.now c.args.surroundings in
    record {
      sites = on_ok_weaker c.add_stmt-in-While.result (two c.args.sites.now c.add_expr-in-While.new.sites c.add_stmt-in-While.new.sites _ _ _ (while_sites w c.args.stmt.now c.in-While.c c.in-While.body c.get-in-While.result.now c.in-While.is c.get-in-While.ensures) c.in_ok-add_expr-in-While.ensures) c.add_stmt-in-While.ensures.sites;
      names = c.add_stmt-in-While.ensures.names;
    }

pub add_stmt-returns-in_ok-add_stmt-in-DoWhile : goal.add_stmt-returns-in_ok-add_stmt-in-DoWhile
add_stmt-returns-in_ok-add_stmt-in-DoWhile g t c =
    let w = around_in c.args.locals.now c.args.surroundings in
    let ok = c.in_ok-add_stmt-in-DoWhile.ensures in
    let v = ap (λ names. around names c.args.surroundings) (sym ok.names) in
    record {
      sites = on_ok_weaker c.add_expr-in-DoWhile.result (two c.args.sites.now c.add_stmt-in-DoWhile.new.sites c.add_expr-in-DoWhile.new.sites _ _ _ (do_while_sites w c.args.stmt.now c.in-DoWhile.body c.get-in-DoWhile.result.now c.in-DoWhile.c (around_in c.add_stmt-in-DoWhile.new.locals c.args.surroundings) c.in-DoWhile.is c.get-in-DoWhile.ensures v) ok.sites) c.add_expr-in-DoWhile.ensures;
      names = where_ok c.add_expr-in-DoWhile.result ok.names;
    }

pub add_stmt-returns-in-Return : goal.add_stmt-returns-in-Return
add_stmt-returns-in-Return g t c =
    let w = around_in c.args.locals.now c.args.surroundings in
    record {
      sites = on_ok_weaker c.add_expr_if_any.result (same c.args.sites.now c.add_expr_if_any.new.sites _ _ (return_sites w c.args.stmt.now c.in-Return.e c.in-Return.field-1 c.in-Return.is)) c.add_expr_if_any.ensures;
      names = where_ok c.add_expr_if_any.result refl;
    }

pub add_stmt-returns-in-Cancel : goal.add_stmt-returns-in-Cancel
add_stmt-returns-in-Cancel g t c =
    let w = around_in c.args.locals.now c.args.surroundings in
    record {
      sites = on_ok_weaker c.add-in-Cancel.result (same c.args.sites.now c.add-in-Cancel.new.sites _ _ (cancel_sites w c.args.stmt.now c.in-Cancel.span c.in-Cancel.is)) c.add-in-Cancel.ensures;
      names = where_ok c.add-in-Cancel.result refl;
    }

pub add_stmt-returns-in-CancelOuter : goal.add_stmt-returns-in-CancelOuter
add_stmt-returns-in-CancelOuter g t c =
    let w = around_in c.args.locals.now c.args.surroundings in
    record {
      sites = on_ok_weaker c.add-in-CancelOuter.result (same c.args.sites.now c.add-in-CancelOuter.new.sites _ _ (cancel_outer_sites w c.args.stmt.now c.in-CancelOuter.span c.in-CancelOuter.is)) c.add-in-CancelOuter.ensures;
      names = where_ok c.add-in-CancelOuter.result refl;
    }

pub add_stmt-returns-in_ok-add_stmt-in-For-clause-sites : goal.add_stmt-returns-in_ok-add_stmt-in-For-clause-sites
add_stmt-returns-in_ok-add_stmt-in-For-clause-sites g t c =
    let old = names_in c.args.locals.now in
    let new = names_in c.add_head.new.locals in
    let w = around_in c.args.locals.now c.args.surroundings in
    let head = c.get-in-For.result.now in
    let body = c.get-in-For-2.result.now in
    let names = names_of_start (start_of head.start) in
    let ok = c.in_ok-add_head-in-For.ensures in
    two c.args.sites.now c.add_head.new.sites c.add_stmt-in-For.new.sites _ _ _
    (for_sites w c.args.stmt.now c.in-For.head head c.in-For.body body c.in-For.is c.get-in-For.ensures c.get-in-For-2.ensures
    ∙ ap (λ ss. head_sites (start_of head.start) (option_map expr_of head.condition) (option_map simple_of head.step) w ++ ss) (body_behind c.args.surroundings (stmt_of body) old new names ok.names))
    ok.sites c.in_ok-add_stmt-in-For.ensures.sites

pub add_stmt-returns-in_ok-add_kind-in-Transaction : goal.add_stmt-returns-in_ok-add_kind-in-Transaction
add_stmt-returns-in_ok-add_kind-in-Transaction g t c =
    let names = names_in c.args.locals.now in
    let w = around_in c.args.locals.now c.args.surroundings in
    let kind = c.in-Transaction.kind in
    let ss = stmts_of c.as_slice-in-Transaction.result.now in
    let is =
    transaction_sites w c.args.stmt.now kind c.in-Transaction.body c.as_slice-in-Transaction.result.now c.in-Transaction.span c.in-Transaction.is c.as_slice-in-Transaction.ensures
    ∙ (λ i. kind_anywhere c.args.surroundings kind c.in-Transaction.span names i ++ stmts_sites ss (sym (c.inside.ensures names) i)) in
    record {
      sites = on_ok_weaker c.add_block-in-Transaction.result (two c.args.sites.now c.add_kind.new.sites c.add_block-in-Transaction.new.sites _ _ _ is c.in_ok-add_kind-in-Transaction.ensures) c.add_block-in-Transaction.ensures.sites;
      names = c.add_block-in-Transaction.ensures.names;
    }

pub add_block_item-returns-in_ok-add_declarators-in-Some-clause-sites : goal.add_block_item-returns-in_ok-add_declarators-in-Some-clause-sites
add_block_item-returns-in_ok-add_declarators-in-Some-clause-sites g t c =
    let w = around_in c.args.locals.now c.args.surroundings in
    same c.args.sites.now c.add_declarators.new.sites _ _ (item_sites c.args.stmt.now c.in-Some.one.now c.as_slice.result.now w c.in-Some.ensures c.as_slice.ensures) c.in_ok-add_declarators-in-Some.ensures.sites

pub add_block_item-returns-in_ok-add_declarators-in-Some-clause-names : goal.add_block_item-returns-in_ok-add_declarators-in-Some-clause-names
add_block_item-returns-in_ok-add_declarators-in-Some-clause-names g t c =
    c.in_ok-add_declarators-in-Some.ensures.names ∙ ap (λ xs. names_in c.args.locals.now ++ xs) (sym (item_names c.args.stmt.now c.in-Some.one.now c.as_slice.result.now c.in-Some.ensures c.as_slice.ensures))

pub add_block-each-init : goal.add_block-each-init
add_block-each-init g t c = (refl, ([], sym (append-nil (names_in c.args.locals.now))))

pub add_block-add_block_item-requires : goal.add_block-add_block_item-requires
add_block-add_block_item-requires g t c κs within =
    let size = the_size g.row.A g.A.Allocator g.A.laws in
    let below = at_most size c.args.all.now c.each.one-index c.one-item.result c.each-test.true in
    let here = ap size c.one-item.is in
    (omega (arith, below, here, c.decreases), within)

pub add_block-each-preserved : goal.add_block-each-preserved
add_block-each-preserved g t c =
    let now = names_in c.each.locals in
    let new = names_in c.add_block_item.new.locals in
    let ok = c.in_ok-add_block_item.ensures in
    let more = c.each.invariant.1 in
    let own = names_of (stmt_of c.one-item.result) in (
      next c.args.sites.now c.each.sites c.add_block_item.new.sites _ _ _ _ (stmts_more c.args.surroundings c.args.all.now c.each.one-index c.one-item.result now new c.one-item.is c.each-test.true ok.names) ok.sites c.each.invariant.0,
      (more.0 ++ own, ok.names ∙ ap (λ xs. xs ++ own) more.1 ∙ append_assoc (names_in c.args.locals.now) more.0 own),
    )

pub add_block-leave-requires : goal.add_block-leave-requires
add_block-leave-requires g t c = room (names_in c.args.locals.now) (names_in c.each.locals) _ c.len-outer.result c.len-outer.ensures c.each.invariant.1.1

pub add_block-returns-clause-sites : goal.add_block-returns-clause-sites
add_block-returns-clause-sites g t c = done c.args.sites.now c.each.sites _ _ (sym (at_drop_all (λ ss. stmts_sites (stmts_of ss) (around_in c.each.locals c.args.surroundings)) c.args.all.now c.each.one-index c.each-test.false)) c.each.invariant.0

pub add_block-returns-clause-names : goal.add_block-returns-clause-names
add_block-returns-clause-names g t c = left (names_in c.args.locals.now) (names_in c.each.locals) (names_in c.leave.new.self) _ c.len-outer.result c.len-outer.ensures c.each.invariant.1.1 c.leave.ensures
