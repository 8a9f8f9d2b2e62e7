use Rattle.frames.proofs.Wording.{words_tell}
use Rattle.frames.proofs.laws.words_tell_configurations.Goals as goal

pub returns : goal.returns
returns c = λ k d more others e. words_tell k d more others e
