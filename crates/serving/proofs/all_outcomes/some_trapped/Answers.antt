use Rattle.std.proofs.Common.{◌∙◌, sym}
use Rattle.serving.proofs.EndTests.{any_outcome}
use Rattle.serving.proofs.all_outcomes.some_trapped.Goals as goal

pub returns : goal.returns
returns g c = c.one_traps.ensures ∙ sym (any_outcome c.args.outcomes.now)
