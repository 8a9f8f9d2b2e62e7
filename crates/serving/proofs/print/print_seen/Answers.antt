use Rattle.std.proofs.Common.{◌∙◌, sym, ap, inr, map, subst}
use Rattle.std.specs.Io.KnownBytes.{Appends}
use Rattle.report.specs.Pieces.{joined, seen_of}
use Rattle.report.specs.Views.{shown_of}
use Rattle.serving.specs.Reports.{is_stopped, is_trapped}
use Rattle.serving.specs.inner.Printing.{plain_report}
use Rattle.serving.proofs.EndTests.{any_seen, few_shown, none_refused, status_shown}
use Rattle.serving.proofs.print.print_seen.Goals as goal

pub returns-in-Ok-print_pieces : goal.returns-in-Ok-print_pieces
returns-in-Ok-print_pieces g c =
    let shown = plain_report (map seen_of c.args.threads.now) (map shown_of c.args.globals.now) c.args.holder in
    let stopped = c.some_seen_stopped.ensures ∙ sym (any_seen is_stopped c.args.threads.now) in
    let trapped = c.some_seen_trapped.ensures ∙ sym (any_seen is_trapped c.args.threads.now) in
    let text = ap joined c.as_slice.ensures.value ∙ c.in-Ok.ensures in
    let unrefused = none_refused c.some_seen_stopped.result c.some_seen_trapped.result c.status_by.result c.status_by.ensures in
    record {
      within = few_shown c.some_seen_stopped.result c.some_seen_trapped.result c.status_by.result c.status_by.ensures;
      answers = λ status. (
        status_shown shown c.some_seen_stopped.result c.some_seen_trapped.result c.status_by.result c.status_by.ensures stopped trapped,
        subst (Appends (g.W.Write.contents c.args.out.now) (g.W.Write.contents c.print_pieces.new.out)) text c.in-Ok-print_pieces.ensures.whole,
      );
      refused = unrefused;
      written = inr (joined c.as_slice.result.now, text, c.in-Ok-print_pieces.ensures.part);
      untouched = λ one. absurd (unrefused one);
    }
