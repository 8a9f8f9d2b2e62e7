use Rattle.machine.proofs.answers.Reached.{answers_ok}
use Rattle.machine.proofs.laws.answers_are_explained.Goals as goal

pub returns : goal.returns
returns C g = λ code init bounds m0 threads w heard fits is_memory r t p hs e f. answers_ok code init bounds m0 is_memory fits threads w heard r t p hs e f
