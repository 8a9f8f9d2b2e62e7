use Rattle.replay.proofs.Spans.{lines_of_order}
use Rattle.replay.proofs.order.turns.Goals as goal

pub returns-clause-lines : goal.returns-clause-lines
returns-clause-lines g c = lines_of_order c.args.code.now c.args.threads c.args.order.now c.in-Ok.world c.begin_all.new.world c.begin_all.new.found.items c.take_turns.new.found.items c.in-Ok.ensures.ok c.in_ok-room.ensures.begun c.in_ok-take_turns.ensures.turns
