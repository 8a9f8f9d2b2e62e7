use Rattle.local_steps.proofs.Known.{found}
use Rattle.machine_tests.proofs.Carrying.{after_steps}
use Rattle.machine_tests.proofs.of_frames.carried.go_once.Goals as goal

pub pass-requires-clause-of : goal.pass-requires-clause-of
pass-requires-clause-of g c = after_steps c.args.code.now c.note_valid.ensures c.args.frames.now.configuration c.advance-made.new.self.configuration c.advance-made.result.0 c.requires c.advance-made.ensures.leads

pub doing_at_pause-doing-requires-clause-of : goal.doing_at_pause-doing-requires-clause-of
doing_at_pause-doing-requires-clause-of g c = after_steps c.args.code.now c.note_valid.ensures c.args.frames.now.configuration c.advance-made.new.self.configuration c.advance-made.result.0 c.requires c.advance-made.ensures.leads

pub doing_at_pause-doing-requires-clause-pauses : goal.doing_at_pause-doing-requires-clause-pauses
doing_at_pause-doing-requires-clause-pauses g c = (found _ c.advance-made.result.1 c.in-Some.pause c.in-Some.is c.advance-made.ensures.pauses).1

pub returns-in-None : goal.returns-in-None
returns-in-None g c = after_steps c.args.code.now c.note_valid.ensures c.args.frames.now.configuration c.advance-made.new.self.configuration c.advance-made.result.0 c.requires c.advance-made.ensures.leads
