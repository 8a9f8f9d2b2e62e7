use Rattle.std.proofs.Common.{◌≡◌, ℕ, ◌<◌, false}
use mathlib.Core.Option.{some}
use lib.ListN.{get_elem?}
use Rattle.machine.specs.States.{thread_has_lock}
use Rattle.workers.specs.declared.worker.Worker.{Worker}
use Rattle.workers.proofs.close.holder.Given as goal

abbrev pub invariant-workers : goal.invariant-workers
invariant-workers g l = (k : ℕ) (w : Worker _) → k < l.worker-index → get_elem? l.workers.items k ≡ some w → thread_has_lock w.thread.thread ≡ false
