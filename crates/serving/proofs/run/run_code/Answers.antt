use Rattle.syntax.specs.Views.{program_of}
use Rattle.serving.proofs.ConcurrentRuns.{leaves, run_concurrently}
use Rattle.serving.proofs.run.run_code.Goals as goal

pub returns-in-Ok-clause-ok : goal.returns-in-Ok-clause-ok
returns-in-Ok-clause-ok g c = λ compiled.
    let shows = leaves (program_of c.args.compiled.now.accepted.safe.typed.unit) c.args.threads c.in_ok-ran.ran _ (rw c.unit_of.ensures at c.in-Ok.ensures) in
    run_concurrently _ c.args.compiled.now.code _ _ c.in_ok-ran.ran _ compiled c.in_ok-ran.ensures.report shows
