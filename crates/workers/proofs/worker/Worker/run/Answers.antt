use Rattle.std.proofs.Common.{◌+◌, sym, ap, rules}
use Rattle.workers.proofs.Going.{counted}
use Rattle.workers.proofs.Standing.{stands_on}
use Rattle.workers.proofs.worker.Worker.run.Goals as goal

pub returns-clause-worker : goal.returns-clause-worker
returns-clause-worker g c =
    ((counted c.args.hall.now.table.shared.table_id c.args.hall.now.setup c.run_on-made.result.0 (c.run_on-made.new.self.steps + c.run_on-made.result.0) c.args.self.now c.run_on-made.new.self (ap (λ n. n + c.run_on-made.result.0) (sym c.run_on-made.ensures.goes_on.1)) c.run_on-made.ensures.goes_on).1
    c.requires.worker).0

pub returns-clause-goes_on : goal.returns-clause-goes_on
returns-clause-goes_on g c =
    counted c.args.hall.now.table.shared.table_id c.args.hall.now.setup c.run_on-made.result.0 (c.run_on-made.new.self.steps + c.run_on-made.result.0) c.args.self.now c.run_on-made.new.self (ap (λ n. n + c.run_on-made.result.0) (sym c.run_on-made.ensures.goes_on.1)) c.run_on-made.ensures.goes_on

pub returns-clause-runs : goal.returns-clause-runs
returns-clause-runs g c =
    let z = c.args.hall.now.table.shared.table_id in
    let key = c.args.hall.now.setup in
    let on = counted z key c.run_on-made.result.0 (c.run_on-made.new.self.steps + c.run_on-made.result.0) c.args.self.now c.run_on-made.new.self (ap (λ n. n + c.run_on-made.result.0) (sym c.run_on-made.ensures.goes_on.1)) c.run_on-made.ensures.goes_on in
    stands_on z key c.args.self.now (record c.run_on-made.new.self { steps = c.run_on-made.new.self.steps + c.run_on-made.result.0 }) on.1

pub returns-clause-status : goal.returns-clause-status
returns-clause-status g c = search rules

pub returns-clause-stop : goal.returns-clause-stop
returns-clause-stop g c = search rules
