use Rattle.serving.proofs.Parts.{part_so}
use Rattle.serving.proofs.Printing.{serves_so}
use Rattle.report.specs.Views.{printed_of}
use Rattle.serving.proofs.ReplayRuns.{replays_drawn}
use Rattle.std.proofs.Common.{◌≡◌, subst, ℕ, List}
use Rattle.serving.specs.Reports.{exit_status}
use Rattle.picture.specs.Replayed.{IsDrawn}
use Rattle.replay.specs.Replays.{simulation_after, timeline_of}
use Rattle.serving.specs.Written.{IsReplayPicture, ReplayedTo}
use Rattle.serving.proofs.pictures.draw.Goals as goal

pub returns-in-Ok : goal.returns-in-Ok
returns-in-Ok g c =
    let shown = printed_of c.in-Ok.replayed.printed in
    let r : ReplayedTo c.args.threads c.args.steps.now (g.S.Read.remaining c.args.schedule) c.args.text.now = record {
      code = c.in-Ok.compiled.code;
      made = c.in-Ok.replayed.made.items;
      stopped = c.in-Ok.replayed.stop;
      shown = shown;
      replay = c.in-Ok.ensures.ok;
    } in
    serves_so c.print_picture.ensures.prints
    (λ says status.
    let printed = says status in
    let drawn = replays_drawn c.args.threads c.args.from c.args.steps.now _ c.args.text.now c.in-Ok.compiled.code c.in-Ok.replayed.made.items c.in-Ok.replayed.stop shown printed.0 (c.print_picture.ensures.whole status) c.in-Ok.ensures.ok printed.2.0 in
    (printed.0, shown, drawn, subst (λ s. c.print_picture.result ≡ exit_status s) printed.2.1 printed.3, printed.4))
    (λ part. part_so (λ (t : List ℕ). IsDrawn c.args.text.now c.args.from c.in-Ok.compiled.code (timeline_of (simulation_after c.in-Ok.compiled.code c.args.threads c.in-Ok.replayed.made.items)) t) (IsReplayPicture c.args.threads c.args.from c.args.steps.now (g.S.Read.remaining c.args.schedule) c.args.text.now) (g.W.Write.contents c.args.out.now) (g.W.Write.contents c.print_picture.new.out) (λ t e. (r, e)) part)
