use Rattle.atomic_code.proofs.Resting.{threads_told}
use Rattle.atomic_code.proofs.laws.words_tell_threads.Goals as goal

pub returns : goal.returns
returns c = λ k l e. threads_told k l e
