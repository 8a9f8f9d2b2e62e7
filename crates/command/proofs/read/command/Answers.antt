use Rattle.std.proofs.lemmas.Result.{IfErr-weaker, IfOk-weaker}
use Rattle.command.proofs.Commands.{asked, own_refused, error_refused}
use Rattle.command.proofs.read.command.Goals as goal

pub returns-in-Ok-clause-ok : goal.returns-in-Ok-clause-ok
returns-in-Ok-clause-ok c = IfOk-weaker c.asked.result _ _ (λ r met. asked _ _ c.in-Ok.matches r c.in_ok-program.ensures c.in-Ok.ensures.matches c.in-Ok.ensures.kinds met) c.asked.ensures.ok

pub returns-in-Ok-clause-err : goal.returns-in-Ok-clause-err
returns-in-Ok-clause-err c = IfErr-weaker c.asked.result _ _ (λ f own. own_refused _ _ c.in-Ok.matches f c.in_ok-program.ensures c.in-Ok.ensures.matches c.in-Ok.ensures.kinds own) c.asked.ensures.err

pub returns-in-Err-clause-err : goal.returns-in-Err-clause-err
returns-in-Err-clause-err c = error_refused _ _ c.in-Err.error _ c.in_ok-program.ensures c.in-Err.ensures.kinds c.refusal.ensures
