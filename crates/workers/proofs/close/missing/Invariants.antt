use Rattle.std.proofs.Common.{ℕ, ◌<◌}
use Rattle.workers.specs.Closing.{HasWorkerFor}
use Rattle.workers.proofs.close.missing.Given as goal

abbrev pub invariant-numbers : goal.invariant-numbers
invariant-numbers g l = (n : ℕ) → n < l.number → HasWorkerFor l.workers.items n
