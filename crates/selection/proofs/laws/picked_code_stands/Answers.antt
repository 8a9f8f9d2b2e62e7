use Rattle.selection.proofs.stands.Cancelling.{cancels_surely_fit}
use Rattle.selection.proofs.stands.Functions.{picked_code_is_lowered}
use Rattle.selection.proofs.laws.picked_code_stands.Goals as goal

pub returns : goal.returns
returns c = λ p typed safe. picked_code_is_lowered p typed (cancels_surely_fit p safe)
