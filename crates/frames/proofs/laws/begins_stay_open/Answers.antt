use Rattle.frames.proofs.Keeping.{begins_stay_open}
use Rattle.frames.proofs.laws.begins_stay_open.Goals as goal

pub returns : goal.returns
returns c = begins_stay_open
