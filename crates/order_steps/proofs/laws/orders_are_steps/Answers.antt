use Rattle.order_steps.proofs.Ordering.{orders_are_steps}
use Rattle.order_steps.proofs.laws.orders_are_steps.Goals as goal
use Rattle.syntax.proofs.words.Words.{begins_with_memory}

pub returns : goal.returns
returns g c code init p fits = orders_are_steps code init p fits (begins_with_memory p)
