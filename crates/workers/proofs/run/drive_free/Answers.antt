use Rattle.std.proofs.Common.{◌∙◌, refl, sym, subst, arith}
use Rattle.workers.specs.declared.worker.Worker.{Worker}
use Rattle.workers.specs.Workers.{StepsOn}
use Rattle.workers.proofs.Going.{further, stays}
use Rattle.workers.proofs.run.drive_free.Goals as goal

pub slices-init : goal.slices-init
slices-init g c = record {
  worker = c.requires.worker;
  steps = refl;
  number = refl;
  goes_on = stays c.args.hall.now.table.shared.table_id c.args.hall.now.setup c.args.worker;
}

pub returns-in-Ok-Ended-clause-goes_on : goal.returns-in-Ok-Ended-clause-goes_on
returns-in-Ok-Ended-clause-goes_on g c =
    let z = c.args.hall.now.table.shared.table_id in
    let key = c.args.hall.now.setup in
    subst (λ (w : Worker _). StepsOn z key c.args.worker w) (sym c.driven_of.ensures.0)
    (further z key c.args.worker c.slices.worker c.run.new.self c.slices.invariant.goes_on c.run.ensures.goes_on.1)

pub returns-in-Ok-Trapped-clause-goes_on : goal.returns-in-Ok-Trapped-clause-goes_on
returns-in-Ok-Trapped-clause-goes_on g c =
    let z = c.args.hall.now.table.shared.table_id in
    let key = c.args.hall.now.setup in
    subst (λ (w : Worker _). StepsOn z key c.args.worker w) (sym c.driven_of-in-Ok-Trapped.ensures.0)
    (further z key c.args.worker c.slices.worker c.run.new.self c.slices.invariant.goes_on c.run.ensures.goes_on.1)

pub returns-in-Err-clause-goes_on : goal.returns-in-Err-clause-goes_on
returns-in-Err-clause-goes_on g c =
    let z = c.args.hall.now.table.shared.table_id in
    let key = c.args.hall.now.setup in
    subst (λ (w : Worker _). StepsOn z key c.args.worker w) (sym c.driven_of-in-Err.ensures.0)
    (further z key c.args.worker c.slices.worker c.run.new.self c.slices.invariant.goes_on c.run.ensures.goes_on.1)

pub returns-then-not-has_room-clause-goes_on : goal.returns-then-not-has_room-clause-goes_on
returns-then-not-has_room-clause-goes_on g c =
    let z = c.args.hall.now.table.shared.table_id in
    let key = c.args.hall.now.setup in
    let ran = further z key c.args.worker c.slices.worker c.run.new.self c.slices.invariant.goes_on c.run.ensures.goes_on.1 in
    further z key c.args.worker c.run.new.self c.drive_full.result.worker ran c.drive_full.ensures.goes_on

pub slices-preserved : goal.slices-preserved
slices-preserved g c =
    let z = c.args.hall.now.table.shared.table_id in
    let key = c.args.hall.now.setup in
    record {
      worker = c.run.ensures.worker;
      steps = (let made = (rw c.in-Ok-Budget.field-0-is at c.in-Ok-Budget.ensures.status).1 in let all = c.slices.invariant.steps in let more = c.slices-test.true in omega (arith, made, all, more));
      number = c.run.ensures.goes_on.0 ∙ c.slices.invariant.number;
      goes_on = further z key c.args.worker c.slices.worker c.run.new.self c.slices.invariant.goes_on c.run.ensures.goes_on.1;
    }

pub returns-clause-goes_on : goal.returns-clause-goes_on
returns-clause-goes_on g c =
    let z = c.args.hall.now.table.shared.table_id in
    let key = c.args.hall.now.setup in
    further z key c.args.worker c.slices.worker c.drive_last.result.worker c.slices.invariant.goes_on c.drive_last.ensures.goes_on
