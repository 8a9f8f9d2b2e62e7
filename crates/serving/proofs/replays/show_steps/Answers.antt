use Rattle.std.proofs.Common.{ℕ, List, ◌≡◌, ◌++◌}
use Rattle.replay.specs.Replays.{simulation_after, timeline_of}
use Rattle.report.specs.Timeline.{timeline_text}
use Rattle.report.specs.Views.{printed_of}
use Rattle.serving.proofs.Codes.{accepts}
use Rattle.serving.proofs.EndTests.{none_stopped}
use Rattle.serving.proofs.ReplayRuns.{replays, replays_shown}
use Rattle.serving.proofs.Parts.{part_so}
use Rattle.serving.proofs.Printing.{serves_so}
use Rattle.report.specs.Report.{report_text}
use Rattle.serving.specs.Written.{IsReplayTimeline, ReplayedTo}
use Rattle.serving.proofs.replays.show_steps.Goals as goal

pub returns-in-Ok : goal.returns-in-Ok
returns-in-Ok g c =
    let made : List ℕ = c.in-Ok.replayed.made.items in
    let lines : List ℕ = timeline_text c.in-Ok.compiled.code (timeline_of (simulation_after c.in-Ok.compiled.code c.args.threads made)) in
    let report = printed_of c.in-Ok.replayed.printed in
    let r : ReplayedTo c.args.threads c.args.steps.now (g.S.Read.remaining c.args.schedule) c.args.text.now = record {
      code = c.in-Ok.compiled.code;
      made = made;
      stopped = c.in-Ok.replayed.stop;
      shown = report;
      replay = c.in-Ok.ensures.ok;
    } in
    serves_so c.print_timeline-status.ensures.prints
    (λ says status.
    let printed = says status in
    let whole = c.print_timeline-status.ensures.whole status in
    let shown = replays_shown c.args.threads c.args.steps.now _ c.args.text.now c.in-Ok.compiled.code made c.in-Ok.replayed.stop report whole c.in-Ok.ensures.ok in
    let replay = replays c.args.threads c.args.steps.now _ c.args.text.now c.in-Ok.compiled.code made c.in-Ok.replayed.stop report whole c.in-Ok.ensures.ok in
    (lines, report, (c.reports_are_orders.ensures.replays c.args.threads c.args.steps.now _ c.args.text.now report replay (none_stopped _ report status printed.0), accepts c.args.text.now _ c.in-Ok.ensures.ok.compiled, shown), printed.0, printed.1))
    (λ part. part_so (λ (t : List ℕ). t ≡ lines ++ report_text report) (IsReplayTimeline c.args.threads c.args.steps.now (g.S.Read.remaining c.args.schedule) c.args.text.now) (g.W.Write.contents c.args.out.now) (g.W.Write.contents c.print_timeline-status.new.out) (λ t e. (r, e)) part)
