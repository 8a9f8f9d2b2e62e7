use Rattle.picture.proofs.Drawn.{one_more_step}
use Rattle.picture.proofs.replayed.next_step.Goals as goal

pub returns-in-Ok-drawn_step-clause-drawn : goal.returns-in-Ok-drawn_step-clause-drawn
returns-in-Ok-drawn_step-clause-drawn g c = one_more_step c.args.from c.args.code.now c.args.world.now c.step_shown.new.self c.args.thread c.accesses.result c.in-Ok.shown _ c.in-Ok.ensures.ok c.in-Ok.ensures.shown c.accesses.ensures c.in-Ok-drawn_step.ensures
