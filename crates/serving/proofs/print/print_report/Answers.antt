use Rattle.std.proofs.Common.{◌∙◌, ap, inr, subst}
use Rattle.std.specs.Io.KnownBytes.{Appends}
use Rattle.report.specs.Pieces.{joined}
use Rattle.report.specs.Views.{printed_of}
use Rattle.serving.specs.Reports.{has_stopped, has_trapped}
use Rattle.serving.proofs.EndTests.{few_shown, none_refused}
use Rattle.serving.proofs.print.print_report.Goals as goal

pub returns-in-Ok-print_pieces : goal.returns-in-Ok-print_pieces
returns-in-Ok-print_pieces g c =
    let shown = printed_of c.args.printed.now in
    let text = ap joined c.as_slice.ensures.value ∙ c.in-Ok.ensures in
    let unrefused = none_refused (has_stopped shown) (has_trapped shown) c.status_of.result c.status_of.ensures in
    record {
      within = few_shown (has_stopped shown) (has_trapped shown) c.status_of.result c.status_of.ensures;
      answers = λ status. (c.status_of.ensures, subst (Appends (g.W.Write.contents c.args.out.now) (g.W.Write.contents c.print_pieces.new.out)) text c.in-Ok-print_pieces.ensures.whole);
      refused = unrefused;
      written = inr (joined c.as_slice.result.now, text, c.in-Ok-print_pieces.ensures.part);
      untouched = λ one. absurd (unrefused one);
    }
