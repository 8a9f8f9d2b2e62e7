use Rattle.std.proofs.Common.{◌∙◌, sym}
use Rattle.serving.specs.Properties.{is_failed}
use Rattle.serving.proofs.Answering.{any_property}
use Rattle.serving.proofs.ask.some_fails.Goals as goal

pub returns : goal.returns
returns g c = c.one_fails.ensures ∙ sym (any_property is_failed c.args.properties.now)
