use Rattle.std.proofs.Common.{refl}
use Rattle.syntax.specs.Views.{program_of}
use Rattle.refinements.specs.Admitted.{SaysAdmitted, ShowsUnadmitted}
use Rattle.serving.specs.Outcomes.{IsOutcomeOf}
use Rattle.serving.proofs.Printing.{serves_so}
use Rattle.serving.proofs.Verdicts.{either_known, either_untold}
use Rattle.serving.proofs.admitted.admit_report.Goals as goal

pub returns-in-Ok : goal.returns-in-Ok
returns-in-Ok g c =
    let count = c.args.limits.threads in
    let p = program_of c.args.compiled.now.accepted.safe.typed.unit in
    either_known (SaysAdmitted (IsOutcomeOf p count) c.args.file.now count) (ShowsUnadmitted (IsOutcomeOf p count) c.args.file.now count) (g.Q.Read.remaining c.args.report) c.in-Ok.bytes.items c.as_slice.result.now c.admit_bytes.result _ _ c.in-Ok.ensures.ok c.as_slice.ensures.value
    (serves_so c.admit_bytes.ensures (λ says. says) (λ writes. writes))

pub returns-in-Err : goal.returns-in-Err
returns-in-Err g c =
    let count = c.args.limits.threads in
    let p = program_of c.args.compiled.now.accepted.safe.typed.unit in
    either_untold (SaysAdmitted (IsOutcomeOf p count) c.args.file.now count) (ShowsUnadmitted (IsOutcomeOf p count) c.args.file.now count) (g.Q.Read.remaining c.args.report) c.in-Err.status _ _ c.in-Err.ensures.status refl
