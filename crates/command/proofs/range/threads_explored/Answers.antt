use Rattle.std.proofs.lemmas.Result.{IfErr-weaker}
use Rattle.command.proofs.Ranges.{none_alone, none_in_turn}
use Rattle.command.proofs.Refusals.{own_weaker}
use Rattle.command.proofs.range.threads_explored.Goals as goal

pub returns-in-Ok-clause-err : goal.returns-in-Ok-clause-err
returns-in-Ok-clause-err c = IfErr-weaker c.one_given.result _ _ (λ f own. own_weaker _ _ (none_alone _ c.in-Ok.field-0 c.in-Ok.ensures.ok) f own) c.one_given.ensures.err

pub returns-in-Err-clause-err : goal.returns-in-Err-clause-err
returns-in-Err-clause-err c = IfErr-weaker c.range_given.result _ _ (λ f own. own_weaker _ _ (none_in_turn _ c.in-Err.ensures.err) f own) c.range_given.ensures.err
