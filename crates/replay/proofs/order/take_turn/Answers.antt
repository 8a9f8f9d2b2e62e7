use Rattle.replay.proofs.Spans.{runs_at, turned}
use Rattle.replay.proofs.order.take_turn.Goals as goal

pub returns-in_ok-more-in-Ok-clause-turn : goal.returns-in_ok-more-in-Ok-clause-turn
returns-in_ok-more-in-Ok-clause-turn g c = turned c.args.world.now c.step.new.self c.args.t c.in_ok-more-in-Ok.more c.in-Ok.ensures.ok (runs_at c.args.world.now c.args.t c.status.result c.status.ensures c.in-Running.is) c.in_ok-more-in-Ok.ensures.rests
