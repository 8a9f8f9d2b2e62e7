use Rattle.serving.specs.inner.Threads.{left_shown}
use Rattle.serving.proofs.Codes.{accepts}
use Rattle.serving.proofs.EndTests.{none_stopped}
use Rattle.serving.proofs.Parts.{part_so}
use Rattle.serving.proofs.Printing.{serves_so}
use Rattle.serving.proofs.run.run.Goals as goal

pub returns-in-Ok : goal.returns-in-Ok
returns-in-Ok g c =
    let shown = left_shown c.args.threads c.in-Ok.left in
    serves_so c.print_left.ensures
    (λ says status.
    let printed = says status in
    let still = none_stopped _ shown status printed.0 in
    (shown, (c.reports_are_orders.ensures.runs c.args.threads c.args.budget c.args.text.now shown c.in-Ok.ensures.ok still, accepts c.args.text.now _ c.in-Ok.ensures.ok.compiled, c.in-Ok.ensures.ok), printed.0, printed.1))
    (λ part. part_so _ _ _ _ (λ text e. (shown, c.in-Ok.ensures.ok, e)) part)
