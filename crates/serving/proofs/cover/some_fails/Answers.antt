use Rattle.std.proofs.Common.{◌∙◌, sym}
use Rattle.serving.specs.Coverings.{fails_covered}
use Rattle.serving.proofs.CoveringTold.{any_covered}
use Rattle.serving.proofs.cover.some_fails.Goals as goal

pub returns : goal.returns
returns g c = c.one_fails.ensures ∙ sym (any_covered fails_covered c.args.properties.now)
