use Rattle.std.proofs.Common.{subst, sym}
use Rattle.workers.specs.Workers.{AreWorkersOf}
use Rattle.workers.proofs.Drives.{with_last}
use Rattle.no_memory_tests.proofs.halls.put.Goals as goal

pub returns : goal.returns
returns g c =
    let z = c.args.hall.now.table.shared.table_id in
    let key = c.args.hall.now.setup in
    subst (AreWorkersOf z key) (sym c.in_ok-push.ensures.items) (with_last z key c.args.workers.now.items c.args.worker c.requires.list c.requires.worker)
