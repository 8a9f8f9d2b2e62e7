use Rattle.lower_spec.proofs.Calls.{means}
use Rattle.lower_spec.proofs.laws.lowered_code_means.Goals as goal

pub returns : goal.returns
returns c = λ p code checked l never. means p code checked l never
