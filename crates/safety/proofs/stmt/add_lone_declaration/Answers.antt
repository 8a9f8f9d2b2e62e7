use Rattle.std.proofs.Common.{ap, sym, map}
use Rattle.syntax.specs.Views.{declarator_of}
use Rattle.safety.specs.Sites.{declarator_sites}
use Rattle.safety.specs.inner.Known.{names_in, around_in}
use Rattle.safety.proofs.Named.{left, room}
use Rattle.safety.proofs.Walks.{same}
use Rattle.safety.proofs.stmt.add_lone_declaration.Goals as goal

pub leave-requires : goal.leave-requires
leave-requires g c = room (names_in c.args.locals.now) (names_in c.add_declarators.new.locals) _ c.len-outer.result c.len-outer.ensures c.in_ok-add_declarators.ensures.names

pub returns-clause-sites : goal.returns-clause-sites
returns-clause-sites g c =
    let w = around_in c.args.locals.now c.args.surroundings in
    same c.args.sites.now c.add_declarators.new.sites _ _ (ap (λ ds. declarator_sites (map declarator_of ds) w) (sym c.as_slice.ensures)) c.in_ok-add_declarators.ensures.sites

pub returns-clause-names : goal.returns-clause-names
returns-clause-names g c = left (names_in c.args.locals.now) (names_in c.add_declarators.new.locals) (names_in c.leave.new.self) _ c.len-outer.result c.len-outer.ensures c.in_ok-add_declarators.ensures.names c.leave.ensures
