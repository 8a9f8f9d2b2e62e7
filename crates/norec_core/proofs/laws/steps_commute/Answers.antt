use Rattle.norec_core.proofs.SavedByMaps.{commutes}
use Rattle.norec_core.proofs.laws.steps_commute.Goals as goal

pub returns : goal.returns
returns g c f = commutes f
