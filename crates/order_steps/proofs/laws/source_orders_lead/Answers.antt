use Rattle.order_steps.proofs.Sourced.{source_orders_lead}
use Rattle.order_steps.proofs.laws.source_orders_lead.Goals as goal
use Rattle.syntax.proofs.words.Words.{begins_with_memory}

pub returns : goal.returns
returns g c code init p fits means = source_orders_lead code init p fits (begins_with_memory p) means
