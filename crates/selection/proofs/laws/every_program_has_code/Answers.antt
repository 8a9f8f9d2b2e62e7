use Rattle.selection.specs.Programs.{picked_code}
use Rattle.selection.proofs.stands.Cancelling.{safe_cancels_fit}
use Rattle.selection.proofs.stands.Functions.{picked_code_is_lowered}
use Rattle.selection.proofs.laws.every_program_has_code.Goals as goal

pub returns : goal.returns
returns c = λ p typed safe. (picked_code p, picked_code_is_lowered p typed (safe_cancels_fit p safe))
