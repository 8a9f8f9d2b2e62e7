use Rattle.std.proofs.Common.{◌≡◌, Some}
use Rattle.std.specs.Prelude.{codes}
use Rattle.std.proofs.lemmas.Result.{IfErr-weaker}
use Rattle.clap.specs.Words.{first_of, found_of, rows_of}
use Rattle.command.proofs.Refusals.{own_weaker}
use Rattle.command.proofs.Tasks.{none_opened}
use Rattle.command.proofs.task.order_opened.Goals as goal

pub returns-in-Some-clause-err : goal.returns-in-Some-clause-err
returns-in-Some-clause-err c =
    let said : Some c.in-Some.field-0.now ≡ first_of (codes "order") (rows_of (found_of c.args.given.now)) = rw c.in-Some.is at c.text_given.ensures in
    IfErr-weaker c.order_given.result _ _ (λ f own. own_weaker _ _ (none_opened _ c.in-Some.field-0.now said) f own) c.order_given.ensures.err
