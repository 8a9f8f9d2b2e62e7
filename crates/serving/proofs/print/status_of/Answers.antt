use Rattle.std.proofs.Common.{◌∙◌, sym, ap}
use Rattle.std.specs.List.{list_any}
use Rattle.report.specs.declared.printed.ThreadShown.{ThreadShown}
use Rattle.report.specs.Views.{printed_of}
use Rattle.serving.specs.Reports.{is_stopped, is_trapped}
use Rattle.serving.proofs.EndTests.{any_shown, status_shown}
use Rattle.serving.proofs.print.status_of.Goals as goal

pub returns : goal.returns
returns g c =
    let threads = c.args.printed.now.threads in
    let stopped = c.has_stopped.ensures ∙ ap (list_any (λ (t : ThreadShown _). is_stopped t.end)) c.as_slice-threads.ensures ∙ sym (any_shown is_stopped threads) in
    let trapped = c.has_trapped.ensures ∙ ap (list_any (λ (t : ThreadShown _). is_trapped t.end)) c.as_slice-threads.ensures ∙ sym (any_shown is_trapped threads) in
    status_shown (printed_of c.args.printed.now) c.has_stopped.result c.has_trapped.result c.status_by.result c.status_by.ensures stopped trapped
