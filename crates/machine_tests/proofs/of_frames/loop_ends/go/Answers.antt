use Rattle.machine_tests.proofs.Carrying.{after_steps}
use Rattle.machine_tests.proofs.of_frames.loop_ends.go.Goals as goal

pub returns : goal.returns
returns g c = after_steps c.args.code.now c.note_valid.ensures c.args.frames.now.configuration c.advance-made.new.self.configuration c.advance-made.result.0 c.requires c.advance-made.ensures.leads
