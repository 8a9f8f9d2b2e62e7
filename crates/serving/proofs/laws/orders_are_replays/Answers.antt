use Rattle.serving.proofs.possible.Replayed.{orders_are_replays, outcomes_are_done}
use Rattle.serving.proofs.laws.orders_are_replays.Goals as goal

pub returns-clause-replays : goal.returns-clause-replays
returns-clause-replays c = orders_are_replays

pub returns-clause-outcomes : goal.returns-clause-outcomes
returns-clause-outcomes c = outcomes_are_done
