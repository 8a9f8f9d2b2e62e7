use Rattle.selection.proofs.stands.Cancelling.{cancels_surely_fit}
use Rattle.selection.proofs.valid.Programs.{picked_is_valid}
use Rattle.selection.proofs.laws.picked_code_is_valid.Goals as goal

pub returns : goal.returns
returns c = λ p typed safe. picked_is_valid p typed (cancels_surely_fit p safe)
