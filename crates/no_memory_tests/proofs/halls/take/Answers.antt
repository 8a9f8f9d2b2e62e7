use Rattle.std.proofs.Common.{subst}
use Rattle.workers.specs.Workers.{AreWorkersOf}
use Rattle.workers.proofs.Drives.{without_last}
use Rattle.no_memory_tests.proofs.halls.take.Goals as goal

pub returns-in-Some-clause-left : goal.returns-in-Some-clause-left
returns-in-Some-clause-left g c =
    let z = c.args.hall.now.table.shared.table_id in
    let key = c.args.hall.now.setup in
    (without_last z key c.pop.new.self.items c.in-Some.worker (subst (AreWorkersOf z key) c.in-Some.ensures.items c.requires)).0

pub returns-in-Some-clause-worker : goal.returns-in-Some-clause-worker
returns-in-Some-clause-worker g c =
    let z = c.args.hall.now.table.shared.table_id in
    let key = c.args.hall.now.setup in
    (without_last z key c.pop.new.self.items c.in-Some.worker (subst (AreWorkersOf z key) c.in-Some.ensures.items c.requires)).1
