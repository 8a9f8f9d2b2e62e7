use Rattle.machine.proofs.answers.Moments.{begins_past}
use Rattle.machine.proofs.laws.attempts_begin_past_their_floor.Goals as goal

pub returns : goal.returns
returns C g = begins_past
