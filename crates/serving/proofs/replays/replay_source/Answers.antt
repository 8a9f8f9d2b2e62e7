use Rattle.report.specs.Views.{printed_of}
use Rattle.serving.proofs.Codes.{accepts}
use Rattle.serving.proofs.EndTests.{none_stopped}
use Rattle.serving.proofs.ReplayRuns.{replays}
use Rattle.serving.proofs.Parts.{part_so}
use Rattle.serving.proofs.Printing.{serves_so}
use Rattle.std.proofs.Common.{◌≡◌, ℕ, List}
use Rattle.report.specs.Report.{report_text}
use Rattle.serving.specs.Written.{IsReplayReport, ReplayedTo}
use Rattle.serving.proofs.replays.replay_source.Goals as goal

pub returns-in-Ok : goal.returns-in-Ok
returns-in-Ok g c =
    let shown = printed_of c.in-Ok.replayed.printed in
    let r : ReplayedTo c.args.threads c.args.steps.now (g.S.Read.remaining c.args.schedule) c.args.text.now = record {
      code = c.in-Ok._compiled.code;
      made = c.in-Ok.replayed.made.items;
      stopped = c.in-Ok.replayed.stop;
      shown = shown;
      replay = c.in-Ok.ensures.ok;
    } in
    serves_so c.print_replay-status.ensures.prints
    (λ says status.
    let printed = says status in
    let replay = replays c.args.threads c.args.steps.now _ c.args.text.now _ _ _ shown (c.print_replay-status.ensures.whole status) c.in-Ok.ensures.ok in
    (shown, (c.reports_are_orders.ensures.replays c.args.threads c.args.steps.now _ c.args.text.now shown replay (none_stopped _ shown status printed.0), accepts c.args.text.now _ c.in-Ok.ensures.ok.compiled, replay), printed.0, printed.1))
    (λ part. part_so (λ (t : List ℕ). t ≡ report_text shown) (IsReplayReport c.args.threads c.args.steps.now (g.S.Read.remaining c.args.schedule) c.args.text.now) (g.W.Write.contents c.args.out.now) (g.W.Write.contents c.print_replay-status.new.out) (λ t e. (r, e)) part)
