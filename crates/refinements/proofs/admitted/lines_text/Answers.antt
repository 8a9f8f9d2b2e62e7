use Rattle.std.proofs.Common.{◌∙◌}
use Rattle.report.specs.Report.{report_text}
use Rattle.report.specs.Views.{printed_of}
use Rattle.refinements.proofs.Nearest.{line_shown, same_texts}
use Rattle.refinements.proofs.admitted.lines_text.Goals as goal

pub returns-in-Some : goal.returns-in-Some
returns-in-Some g c = λ line at.
    let first = rw c.in-Some.is at c.in_ok-lines.ensures in
    line_shown (report_text (printed_of c.args.one.now.shown)) c.as_slice.result.now c.args.report.now first.0 line c.in-Some.lines.items (c.as_slice.ensures.value ∙ c.in_ok-text.ensures) first.1 first.2 at

pub returns : goal.returns
returns g c = λ line at.
    let same = rw c.in-None.is at c.in_ok-lines.ensures in
    absurd (same_texts (report_text (printed_of c.args.one.now.shown)) c.as_slice.result.now c.args.report.now line (c.as_slice.ensures.value ∙ c.in_ok-text.ensures) same at)
