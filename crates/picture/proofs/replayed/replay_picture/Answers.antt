use Rattle.picture.proofs.replayed.replay_picture.Goals as goal

pub returns-in-Ok-finish : goal.returns-in-Ok-finish
returns-in-Ok-finish g c = rw c.in_ok-world.ensures.0 at c.in-Ok-finish.ensures
