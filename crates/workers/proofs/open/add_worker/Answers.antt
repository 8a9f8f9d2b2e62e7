use Rattle.std.proofs.Common.{◌∙◌, ap, sym, subst, refl}
use Rattle.bytecode.specs.Code.{Code}
use Rattle.machine.specs.Standing.{IsThreadOf}
use Rattle.machine.specs.States.{first_thread}
use Rattle.workers.specs.Workers.{AreWorkersFrom, IsWorkerOf}
use Rattle.workers.proofs.Opens.{is_next, one_more, workers_more, works_made}
use Rattle.workers.proofs.open.add_worker.Goals as goal

pub returns-clause-count : goal.returns-clause-count
returns-clause-count g c = one_more _ _ c.args.number _ c.in_ok-push.ensures.len c.requires.number.0 refl

pub returns-clause-workers : goal.returns-clause-workers
returns-clause-workers g c =
    let key = c.args.setup.now in
    let made = c.in_ok-one.ensures in
    let one = c.in_ok-one.one in
    let is : IsWorkerOf c.args.seat.table_id key one = (
      ap (λ s. s.table_id) made.seat,
      works_made key c.args.number one c.requires.valid c.requires.number.1 made.number (made.thread.0 ∙ ap (λ (k : Code). first_thread k c.args.number) c.code.ensures) (subst (λ (k : Code). IsThreadOf k one.thread.thread) c.code.ensures made.thread.1) made.none.0 made.none.1 (ap (λ s. s.me) made.seat ∙ c.requires.seat),
    ) in
    subst (AreWorkersFrom c.args.seat.table_id key 0) (sym (c.in_ok-push.ensures.items)) (workers_more key c.args.seat.table_id 0 c.args.all.now.items one c.requires.workers is (is_next c.args.all.now.items _ one.number c.args.number c.requires.number.0 c.args.all.now.ok.0 made.number) made.none.0)
