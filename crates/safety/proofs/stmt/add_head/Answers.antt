use Rattle.std.proofs.Common.{◌++◌, refl, option_map}
use Rattle.syntax.specs.Views.{expr_of, simple_of, start_of}
use Rattle.safety.specs.Sites.{names_of_start, start_sites}
use Rattle.safety.specs.inner.Known.{names_in, around_in}
use Rattle.safety.proofs.Walks.{two, first_sites, step_sites}
use Rattle.safety.proofs.stmt.add_head.Goals as goal

pub returns-clause-sites : goal.returns-clause-sites
returns-clause-sites g c =
    let head = c.args.head.now in
    let surroundings = c.args.surroundings in
    let old = names_in c.args.locals.now in
    let new = names_in c.add_start.new.locals in
    let names = names_of_start (start_of head.start) in
    let begin = start_sites (start_of head.start) (around_in c.args.locals.now surroundings) in
    let ok = c.in_ok-add_start.ensures in
    two c.args.sites.now c.add_expr_if_any.new.sites c.add_simple_if_any.new.sites _ _ _
    (λ i. begin ++ first_sites surroundings (option_map expr_of head.condition) old new names ok.names i ++ step_sites surroundings (option_map simple_of head.step) old new names ok.names i)
    (two c.args.sites.now c.add_start.new.sites c.add_expr_if_any.new.sites _ _ _ refl ok.sites c.in_ok-add_expr_if_any.ensures) c.in_ok-add_simple_if_any.ensures
