use Rattle.std.proofs.Common.{sym, map}
use Rattle.std.proofs.lemmas.List.{at_drop_all}
use Rattle.syntax.specs.Views.{declarator_of}
use Rattle.safety.specs.Sites.{declarator_sites}
use Rattle.safety.specs.inner.Known.{names_in, around_in}
use Rattle.safety.proofs.Walks.{next, next_of, done, done_of, declarators_more, names_more}
use Rattle.safety.proofs.stmt.add_declarators.Goals as goal

pub each-preserved : goal.each-preserved
each-preserved g c =
    let now = names_in c.each.locals in
    let new = names_in c.add_declarator.new.locals in
    let ok = c.in_ok-add_declarator.ensures in (
      next c.args.sites.now c.each.sites c.add_declarator.new.sites _ _ _ _ (declarators_more c.args.surroundings c.args.all.now c.each.one-index c.one-item.result now new c.one-item.is c.each-test.true ok.names) ok.sites c.each.invariant.0,
      next_of (names_in c.args.locals.now) now new _ _ _ _ (names_more c.args.all.now c.each.one-index c.one-item.result c.one-item.is c.each-test.true) ok.names c.each.invariant.1,
    )

pub returns-clause-sites : goal.returns-clause-sites
returns-clause-sites g c = done c.args.sites.now c.each.sites _ _ (sym (at_drop_all (λ ds. declarator_sites (map declarator_of ds) (around_in c.each.locals c.args.surroundings)) c.args.all.now c.each.one-index c.each-test.false)) c.each.invariant.0

pub returns-clause-names : goal.returns-clause-names
returns-clause-names g c = done_of (names_in c.args.locals.now) (names_in c.each.locals) _ _ (sym (at_drop_all (λ ds. map (λ d. d.name.text) (map declarator_of ds)) c.args.all.now c.each.one-index c.each-test.false)) c.each.invariant.1
