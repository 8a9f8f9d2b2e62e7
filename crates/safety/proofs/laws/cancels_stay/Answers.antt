use Rattle.safety.proofs.CancelsStay.{cancels_stay as the_law}
use Rattle.safety.proofs.laws.cancels_stay.Goals as goal

pub returns : goal.returns
returns c = the_law
