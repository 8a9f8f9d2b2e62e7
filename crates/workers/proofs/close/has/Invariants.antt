use Rattle.std.proofs.Common.{◌≡◌, ◌≢◌, ℕ, ◌<◌}
use mathlib.Core.Option.{some}
use lib.ListN.{get_elem?}
use Rattle.workers.specs.declared.worker.Worker.{Worker}
use Rattle.workers.proofs.close.has.Given as goal

abbrev pub invariant-workers : goal.invariant-workers
invariant-workers g l = (k : ℕ) (w : Worker _) → k < l.worker-index → get_elem? l.workers.items k ≡ some w → w.number ≢ l.number
