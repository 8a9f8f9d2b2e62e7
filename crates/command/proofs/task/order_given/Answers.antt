use Rattle.std.proofs.Common.{ℕ, List}
use Rattle.command.specs.Asked.{IsOrder}
use Rattle.command.proofs.Refusals.{own_of}
use Rattle.command.proofs.Tasks.{no_order}
use Rattle.command.proofs.task.order_given.Goals as goal

pub returns-clause-err : goal.returns-clause-err
returns-clause-err c =
    let none : (order : List ℕ) → IsOrder c.as_str.result.now order → ⊥ = rw c.in-None.is at c.in_ok-order.ensures in
    own_of _ _ (no_order _ c.as_str.result.now _ none c.as_str.ensures.value c.in_ok-text.ensures.ok) c.bad_order.ensures
