use Rattle.std.proofs.Common.{ap, sym, ◌∙◌, option_map}
use Rattle.syntax.specs.Views.{item_of, stmts_of}
use Rattle.lower.specs.Nested.{any_too_deep, body_too_deep, item_too_deep}
use Rattle.lower.proofs.deep.deep_item.Goals as goal

pub returns-in-Some : goal.returns-in-Some
returns-in-Some g c =
    c.deep_stmts.ensures
    ∙ ap (λ ss. any_too_deep (stmts_of ss) c.args.count) c.as_slice.ensures
    ∙ sym (ap (λ o. body_too_deep (option_map stmts_of o) c.args.count) c.in-Some.is)
    ∙ sym (ap (λ i. item_too_deep (item_of i) c.args.count) c.in-Function.is)
