use Rattle.std.proofs.lemmas.Result.{IfErr-weaker, IfOk-weaker}
use Rattle.command.proofs.Testing.{job_error, job_refused, job_wanted}
use Rattle.command.proofs.read.job.Goals as goal

pub returns-in-Ok-clause-ok : goal.returns-in-Ok-clause-ok
returns-in-Ok-clause-ok c = IfOk-weaker c.job_asked.result _ _ (λ j met. job_wanted _ _ c.in-Ok.matches j c.in_ok-program.ensures c.in-Ok.ensures.matches c.in-Ok.ensures.kinds met) c.job_asked.ensures.ok

pub returns-in-Ok-clause-err : goal.returns-in-Ok-clause-err
returns-in-Ok-clause-err c = IfErr-weaker c.job_asked.result _ _ (λ f own. job_refused _ _ c.in-Ok.matches f c.in_ok-program.ensures c.in-Ok.ensures.matches c.in-Ok.ensures.kinds own) c.job_asked.ensures.err

pub returns-in-Err-clause-err : goal.returns-in-Err-clause-err
returns-in-Err-clause-err c = job_error _ _ c.in-Err.error _ c.in_ok-program.ensures c.in-Err.ensures.kinds c.refusal.ensures
