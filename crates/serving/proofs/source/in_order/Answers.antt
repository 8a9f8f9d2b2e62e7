use Rattle.report.specs.Views.{printed_of}
use Rattle.serving.proofs.Parts.{part_so}
use Rattle.serving.proofs.Printing.{serves_so}
use Rattle.serving.proofs.source.in_order.Goals as goal

pub returns-in-Ok : goal.returns-in-Ok
returns-in-Ok g c =
    serves_so c.print_report-status.ensures
    (λ says status. let printed = says status in (printed_of c.in-Ok.printed, (c.in-Ok.ensures.ok, c.in-Ok.ensures.accepted), printed.0, printed.1))
    (λ part. part_so _ _ _ _ (λ text e. (printed_of c.in-Ok.printed, (c.in-Ok.ensures.ok, c.in-Ok.ensures.accepted), e)) part)
