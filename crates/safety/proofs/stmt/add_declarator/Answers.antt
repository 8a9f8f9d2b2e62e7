use Rattle.std.proofs.Common.{ap, ◌∙◌, ◌∷◌, ◌++◌, [], option_map}
use Rattle.syntax.specs.Views.{expr_of}
use Rattle.safety.specs.inner.Known.{names_in}
use Rattle.safety.proofs.Walks.{same, first_sites}
use Rattle.safety.proofs.stmt.add_declarator.Goals as goal

pub returns-clause-sites : goal.returns-clause-sites
returns-clause-sites g c =
    let old = names_in c.args.locals.now in
    let names = c.in_ok-declare.ensures ∙ ap (λ x. old ++ x ∷ []) c.as_str.ensures in
    same c.args.sites.now c.add_expr_if_any.new.sites _ _ (first_sites c.args.surroundings (option_map expr_of c.args.one.now.first) old (names_in c.declare.new.self) (c.args.one.now.name.text ∷ []) names) c.in_ok-add_expr_if_any.ensures
