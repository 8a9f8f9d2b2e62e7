use Rattle.std.proofs.Common.{map}
use Rattle.syntax.specs.Views.{program_of}
use Rattle.report.specs.Views.{reported_of}
use Rattle.serving.proofs.Admitting.{report_told}
use Rattle.serving.proofs.admitted.admit_bytes.Goals as goal

pub returns-in-Ok : goal.returns-in-Ok
returns-in-Ok g c =
    let found = c.in-Ok.found in
    report_told (program_of c.args.compiled.now.accepted.safe.typed.unit) c.args.limits.threads c.args.file.now c.args.report.now found.end (map reported_of found.outcomes.items) (map reported_of found.stuck.items) c.in-Ok.ensures.are c.tell_found.result _ _ c.tell_found.ensures
