use Rattle.std.proofs.Common.{◌≡◌, ◌++◌, ◌-◌}
use Rattle.replay.specs.Seeds.{generator_of}
use Rattle.replay.proofs.Words.{lines_from}
use Rattle.replay.proofs.seed.seeded.Given as goal

-- all lines are those so far and those of the words still to come
abbrev pub invariant-steps : goal.invariant-steps
invariant-steps g l = lines_from l.threads l.steps (generator_of l.seed) ≡ l.found.items ++ lines_from l.threads (l.steps - l.i) l.generator
