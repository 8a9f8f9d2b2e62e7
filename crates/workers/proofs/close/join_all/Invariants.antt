use Rattle.std.proofs.Common.{◌≡◌, ◌≤◌, ◌+◌, List, [], ◌++◌, length, vec_len}
use Rattle.std.specs.Vec.{vec_capacity}
use Rattle.workers.specs.declared.worker.Worker.{Worker}
use Rattle.workers.specs.Closing.{finished_back}
use Rattle.workers.specs.inner.Closing.{parts_back}
use Rattle.workers.proofs.close.join_all.Given as goal

abbrev pub invariant-loop-worker : goal.invariant-loop-worker
invariant-loop-worker g l =
    (l.all.table_id ≡ l.words.table_id)
    × ((done : List (Worker _)) × (l.fn.workers.items ≡ l.workers.items ++ done) × (l.all.me ≡ (parts_back done, [])) × (l.threads.items ≡ finished_back done))
    × (vec_len l.threads + vec_len l.workers ≤ vec_capacity l.threads)

abbrev pub decreases-loop-worker : goal.decreases-loop-worker
decreases-loop-worker g l = length l.workers.items
