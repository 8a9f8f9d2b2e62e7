use Rattle.parse.specs.Faults.{source_of}
use Rattle.serving.proofs.Admitting.{report_refused, report_served}
use Rattle.serving.proofs.admitted.admit.Goals as goal

pub returns-in-Ok : goal.returns-in-Ok
returns-in-Ok g c =
    report_served c.args.text.now (source_of c.in-Ok.compiled.accepted.safe.typed.unit) c.in-Ok.ensures.source c.in-Ok.compiled.accepted.accepted c.args.file.now c.args.limits.threads (g.Q.Read.remaining c.args.report) c.admit_report.result _ _ c.admit_report.ensures

pub returns-in-Err : goal.returns-in-Err
returns-in-Err g c =
    report_refused c.args.file.now c.args.limits.threads c.args.text.now (g.Q.Read.remaining c.args.report) c.refuse.result _ c.refuse.ensures.within c.refuse.ensures.not_ended (λ one. (c.in-Err.fault, c.in-Err.ensures.err, c.refuse.ensures.refused one))
