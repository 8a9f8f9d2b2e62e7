use Rattle.std.proofs.Common.{rules}
use Rattle.world.proofs.Stepping.{event_shown}
use Rattle.world.proofs.world.World.step.Goals as goal

pub returns-in-Ok-clause-event : goal.returns-in-Ok-clause-event
returns-in-Ok-clause-event g c = event_shown c.args.self.now c.args.t c.in-Ok.shown c.in-Ok.ensures.shown

pub returns-in-Err-clause-used_up : goal.returns-in-Err-clause-used_up
returns-in-Err-clause-used_up g c = search rules
