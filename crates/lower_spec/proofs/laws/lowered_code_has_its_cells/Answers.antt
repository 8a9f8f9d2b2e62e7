use Rattle.lower_spec.proofs.Calls.{same_bounds}
use Rattle.lower_spec.proofs.laws.lowered_code_has_its_cells.Goals as goal

pub returns : goal.returns
returns c = λ p code l. same_bounds p code l
