use Rattle.std.proofs.Common.{◌∙◌, sym, ap}
use Rattle.std.specs.List.{list_any}
use Rattle.report.specs.declared.printed.ThreadShown.{ThreadShown}
use Rattle.serving.specs.Reports.{is_trapped}
use Rattle.serving.proofs.EndTests.{any_shown}
use Rattle.serving.proofs.all_outcomes.traps.Goals as goal

pub returns : goal.returns
returns g c =
    c.has_trapped.ensures ∙ ap (list_any (λ (t : ThreadShown _). is_trapped t.end)) c.as_slice.ensures
    ∙ sym (any_shown is_trapped c.args.outcome.now.shown.threads)
