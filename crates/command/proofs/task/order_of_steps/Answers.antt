use Rattle.std.proofs.lemmas.Result.{IfErr-weaker}
use Rattle.command.proofs.Refusals.{own_weaker}
use Rattle.command.proofs.task.order_of_steps.Goals as goal

pub returns-clause-err : goal.returns-clause-err
returns-clause-err c = IfErr-weaker c.order_given.result _ _ (λ f own. own_weaker _ _ (λ none ns given n counted. none ns given) f own) c.order_given.ensures.err
