use Rattle.replay.proofs.Spans.{rested}
use Rattle.replay.proofs.order.come_to_rest.Goals as goal

pub returns-in-Ok-clause-rests : goal.returns-in-Ok-clause-rests
returns-in-Ok-clause-rests g c = rested c.args.world.now c.run_alone.new.self c.args.t c.in-Ok.made c.in-Ok.ensures.made.1 c.in-Ok.ensures.first (c.rests.ensures.rests c.if-rests.true)
