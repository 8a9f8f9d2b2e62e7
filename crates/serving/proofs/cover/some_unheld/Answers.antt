use Rattle.std.proofs.Common.{◌∙◌, not, sym}
use Rattle.serving.specs.Coverings.{holds_covered}
use Rattle.serving.proofs.CoveringTold.{any_covered}
use Rattle.serving.proofs.cover.some_unheld.Goals as goal

pub returns : goal.returns
returns g c = c.one_is_unheld.ensures ∙ sym (any_covered (λ f. not (holds_covered f)) c.args.properties.now)
