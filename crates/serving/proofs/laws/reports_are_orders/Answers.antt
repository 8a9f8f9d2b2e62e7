use Rattle.serving.proofs.SomeOrder.{replays_are_of_orders, replays_leave_orders, runs_are_of_orders, runs_leave_orders}
use Rattle.serving.proofs.laws.reports_are_orders.Goals as goal

pub returns-clause-runs : goal.returns-clause-runs
returns-clause-runs c = runs_are_of_orders c.threads_go_on.ensures.ticks c.threads_go_on.ensures.both c.threads_leave_memories.ensures.never_more c.orders_show_runs.ensures.runs

pub returns-clause-replays : goal.returns-clause-replays
returns-clause-replays c = replays_are_of_orders c.threads_go_on.ensures.ticks c.threads_go_on.ensures.both c.threads_leave_memories.ensures.never_more c.orders_show_runs.ensures.runs

pub returns-clause-runs_left : goal.returns-clause-runs_left
returns-clause-runs_left c = runs_leave_orders c.threads_go_on.ensures.ticks c.threads_go_on.ensures.both c.threads_leave_memories.ensures.never_more c.orders_show_runs.ensures.runs

pub returns-clause-left : goal.returns-clause-left
returns-clause-left c = replays_leave_orders c.threads_go_on.ensures.ticks c.threads_go_on.ensures.both c.threads_leave_memories.ensures.never_more c.orders_show_runs.ensures.runs
