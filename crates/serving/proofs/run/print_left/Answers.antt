use Rattle.std.proofs.Common.{◌∙◌, ap, map, subst}
use Rattle.report.specs.Pieces.{seen_of}
use Rattle.report.specs.Printed.{Printed}
use Rattle.report.specs.Views.{shown_of}
use Rattle.serving.specs.inner.Serves.{PrintsReportOf}
use Rattle.serving.proofs.ConcurrentRuns.{is_left}
use Rattle.serving.proofs.run.print_left.Goals as goal

pub returns-in-Ok : goal.returns-in-Ok
returns-in-Ok g c =
    let is = is_left c.args.threads c.args.left.now c.as_slice.result.now c.as_slice-globals.result.now c.holder_of-holder.result (ap (map seen_of) c.as_slice.ensures.value ∙ c.in-Ok.ensures) (ap (map shown_of) c.as_slice-globals.ensures) c.holder_of-holder.ensures in
    subst (λ (shown : Printed). PrintsReportOf shown c.print_seen-status.result (g.W.Write.contents c.args.out.now) (g.W.Write.contents c.print_seen-status.new.out)) is c.print_seen-status.ensures
