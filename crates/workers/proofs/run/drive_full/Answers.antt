use Rattle.std.proofs.Common.{◌∙◌, refl, sym, ap, subst, arith, add-zero}
use Rattle.shared_words.specs.Setup.{Setup}
use Rattle.workers.specs.declared.worker.Worker.{Worker}
use Rattle.workers.specs.Workers.{StepsOn}
use Rattle.workers.proofs.Going.{further, stays}
use Rattle.workers.proofs.run.drive_full.Goals as goal

pub steps-init : goal.steps-init
steps-init c = record {
  worker = c.requires.worker;
  steps = sym (add-zero c.args.worker.steps);
  number = refl;
  goes_on = stays c.args.hall.now.table.shared.table_id c.args.hall.now.setup c.args.worker;
}

pub returns-then-ne-clause-goes_on : goal.returns-then-ne-clause-goes_on
returns-then-ne-clause-goes_on c = subst (λ (w : Worker _). StepsOn c.args.hall.now.table.shared.table_id c.args.hall.now.setup c.args.worker w) (sym c.driven_of.ensures.0) c.steps.invariant.goes_on

pub returns-then-wants_memory-clause-goes_on : goal.returns-then-wants_memory-clause-goes_on
returns-then-wants_memory-clause-goes_on c = subst (λ (w : Worker _). StepsOn c.args.hall.now.table.shared.table_id c.args.hall.now.setup c.args.worker w) (sym c.driven_of-then-wants_memory.ensures.0) c.steps.invariant.goes_on

pub returns-in-Err-clause-goes_on : goal.returns-in-Err-clause-goes_on
returns-in-Err-clause-goes_on c =
    let z = c.args.hall.now.table.shared.table_id in
    let key = c.args.hall.now.setup in
    let one = subst (λ (k : Setup). StepsOn z k c.steps.worker c.step.new.self) c.args.hall.now.key c.step.ensures.goes_on.1 in
    subst (λ (w : Worker _). StepsOn z key c.args.worker w) (sym c.driven_of-in-Err.ensures.0) (further z key c.args.worker c.steps.worker c.step.new.self c.steps.invariant.goes_on one)

pub steps-preserved : goal.steps-preserved
steps-preserved c =
    let z = c.args.hall.now.table.shared.table_id in
    let key = c.args.hall.now.setup in
    let one = subst (λ (k : Setup). StepsOn z k c.steps.worker c.step.new.self) c.args.hall.now.key c.step.ensures.goes_on.1 in
    record {
      worker = (one c.steps.invariant.worker).0;
      steps = (let a = c.in_default.ensures.ok in let b = c.steps.invariant.steps in omega arith);
      number = c.step.ensures.goes_on.0 ∙ c.steps.invariant.number;
      goes_on = further z key c.args.worker c.steps.worker c.step.new.self c.steps.invariant.goes_on one;
    }

pub returns-clause-goes_on : goal.returns-clause-goes_on
returns-clause-goes_on c = subst (λ (w : Worker _). StepsOn c.args.hall.now.table.shared.table_id c.args.hall.now.setup c.args.worker w) (sym c.driven_of-2.ensures.0) c.steps.invariant.goes_on
