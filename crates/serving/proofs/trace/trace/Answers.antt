use Rattle.std.proofs.Common.{◌≡◌, List, Option, ℕ, subst}
use Rattle.report.specs.Views.{printed_of}
use Rattle.world.specs.declared.stop.WorldStop.{WorldStop}
use Rattle.serving.specs.Reports.{exit_status}
use Rattle.serving.specs.Traces.{IsOrderTrace, IsOrderTraced}
use Rattle.serving.proofs.Parts.{part_so}
use Rattle.serving.proofs.Printing.{serves_so}
use Rattle.serving.proofs.trace.trace.Goals as goal

pub returns-in-Ok : goal.returns-in-Ok
returns-in-Ok g c =
    let shown = printed_of c.in-Ok.replayed.printed in
    serves_so c.print_trace-status.ensures.prints
    (λ says status.
    let printed = says status in
    let order = subst (λ (s : Option WorldStop). IsOrderTraced c.args.threads c.args.order.now c.args.text.now s shown) (c.print_trace-status.ensures.whole status) c.in-Ok.ensures.ok in
    (printed.0, shown, order, subst (λ s. c.print_trace-status.result ≡ exit_status s) printed.2 printed.3, printed.4))
    (λ part. part_so (λ (t : List ℕ). Unit {0}) (IsOrderTrace c.args.threads c.args.order.now c.args.text.now) (g.W.Write.contents c.args.out.now) (g.W.Write.contents c.print_trace-status.new.out) (λ t e. (c.in-Ok.replayed.stop, shown, c.in-Ok.ensures.ok)) part)
