use Rattle.syntax.proofs.running.Counted.{left_as_many_as_found, never_more_left}
use Rattle.syntax.proofs.ordering.OrderRuns.{orders_are_runs}
use Rattle.syntax.proofs.ordering.RunOrders.{runs_are_orders}
use Rattle.syntax.proofs.running.ThreadLaws.{goes_on}
use Rattle.syntax.proofs.laws.orders_show_runs.Goals as goal

pub returns-clause-runs : goal.returns-clause-runs
returns-clause-runs c = runs_are_orders left_as_many_as_found never_more_left goes_on

pub returns-clause-orders : goal.returns-clause-orders
returns-clause-orders c = orders_are_runs left_as_many_as_found never_more_left goes_on
