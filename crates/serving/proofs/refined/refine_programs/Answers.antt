use Rattle.std.proofs.Common.{map}
use Rattle.syntax.specs.Views.{program_of}
use Rattle.report.specs.Views.{reported_of}
use Rattle.serving.proofs.Comparing.{prints_refines}
use Rattle.serving.proofs.refined.refine_programs.Goals as goal

pub returns-in-Ok-outcomes_found : goal.returns-in-Ok-outcomes_found
returns-in-Ok-outcomes_found g c =
    let p = program_of c.args.this.now.accepted.safe.typed.unit in
    let q = program_of c.args.that.now.accepted.safe.typed.unit in
    let found = c.in-Ok.found in
    let others = c.in-Ok-outcomes_found.others in
    prints_refines p q c.args.limits.threads c.args.name.now found.end (map reported_of found.outcomes.items) (map reported_of found.stuck.items) others.end (map reported_of others.outcomes.items) (map reported_of others.stuck.items) c.in-Ok.ensures.are c.in-Ok-outcomes_found.ensures.are
    c.tell_found.result _ _ c.tell_found.ensures
