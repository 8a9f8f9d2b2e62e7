use Rattle.std.proofs.Common.{◌∙◌, ◌++◌, ap, map}
use Rattle.std.specs.Prelude.{flat_map}
use Rattle.report.specs.Coverings.{covered_text}
use Rattle.report.specs.CoveringViews.{covering_of}
use Rattle.report.proofs.coverings.coverings_text.Goals as goal

pub returns : goal.returns
returns g c = c.in_ok-push_properties.ensures ∙ ap (λ xs. xs ++ flat_map covered_text (map covering_of c.args.properties.now)) c.new-list.ensures.items
