use Rattle.std.proofs.Common.{◌++◌, ◌∙◌, ap, sym, map}
use Rattle.syntax.specs.Tree.{Declares}
use Rattle.syntax.specs.Views.{declarator_of, start_of}
use Rattle.safety.specs.Sites.{declarator_sites, names_of_start, start_sites}
use Rattle.safety.specs.inner.Known.{names_in, around_in}
use Rattle.safety.proofs.Walks.{same}
use Rattle.safety.proofs.stmt.add_start.Goals as goal

pub returns-in_ok-add_declarators-in-Declare-clause-sites : goal.returns-in_ok-add_declarators-in-Declare-clause-sites
returns-in_ok-add_declarators-in-Declare-clause-sites g c =
    let w = around_in c.args.locals.now c.args.surroundings in
    same c.args.sites.now c.add_declarators.new.sites _ _ (ap (λ s. start_sites (start_of s) w) c.in-Declare.is ∙ ap (λ ds. declarator_sites (map declarator_of ds) w) (sym c.as_slice.ensures)) c.in_ok-add_declarators-in-Declare.ensures.sites

pub returns-in_ok-add_declarators-in-Declare-clause-names : goal.returns-in_ok-add_declarators-in-Declare-clause-names
returns-in_ok-add_declarators-in-Declare-clause-names g c =
    let slice = ap (λ ds. names_of_start (Declares (record { ty = c.in-Declare.one.ty; declarators = map declarator_of ds }))) c.as_slice.ensures in
    let is = ap (λ s. names_of_start (start_of s)) c.in-Declare.is in
    c.in_ok-add_declarators-in-Declare.ensures.names ∙ ap (λ xs. names_in c.args.locals.now ++ xs) (slice ∙ sym is)
