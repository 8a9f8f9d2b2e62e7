use Rattle.std.proofs.Common.{◌≡◌, ◌++◌, false, map, ap, option_map, sym, ◌∙◌}
use Rattle.syntax.specs.Views.{parameter_of, stmts_of}
use Rattle.syntax.specs.Typing.{parameter_names}
use Rattle.safety.specs.Sites.{stmts_sites, body_sites}
use Rattle.safety.specs.Views.{sites_of_own}
use Rattle.safety.specs.inner.Known.{names_in}
use Rattle.safety.proofs.stmt.body_sites.Goals as goal

pub returns-in_ok-add_block-in-Some : goal.returns-in_ok-add_block-in-Some
returns-in_ok-add_block-in-Some g c =
    let qs = map parameter_of c.args.f.now.parameters in
    let names : names_in c.add_parameters.new.locals ≡ parameter_names qs = c.in_ok-add_parameters-in-Some.ensures ∙ (λ i. c.new-locals.ensures i ++ parameter_names (map parameter_of (c.as_slice.ensures i))) in
    c.in_ok-add_block-in-Some.ensures.sites
    ∙ (λ i. sites_of_own (c.new-sites.ensures i) ++ stmts_sites (stmts_of (c.as_slice-in-Some.ensures i)) (record { locals = names i; atomic = false; outer = false; in_any = false }))
    ∙ sym (ap (λ o. body_sites qs (option_map stmts_of o)) c.in-Some.is)
