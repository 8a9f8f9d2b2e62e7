use Rattle.std.proofs.Common.{◌∙◌, not, sym}
use Rattle.serving.specs.Properties.{is_held}
use Rattle.serving.proofs.Answering.{any_property}
use Rattle.serving.proofs.ask.some_unheld.Goals as goal

pub returns : goal.returns
returns g c = c.one_is_unheld.ensures ∙ sym (any_property (λ f. not (is_held f)) c.args.properties.now)
