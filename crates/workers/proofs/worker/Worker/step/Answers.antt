use Rattle.std.proofs.Common.{◌+◌, sym, ap, ◌∙◌, add-zero}
use Rattle.workers.proofs.Going.{counted}
use Rattle.workers.proofs.worker.Worker.step.Goals as goal

pub step_on-requires-clause-worker : goal.step_on-requires-clause-worker
step_on-requires-clause-worker g c = (c.args.self.now.steps, c.requires.worker, c.requires.room)

pub returns-in-Err-clause-goes_on : goal.returns-in-Err-clause-goes_on
returns-in-Err-clause-goes_on g c =
    counted c.args.words.now.table_id c.args.words.now.key 0 c.step_on.new.self.steps c.args.self.now c.step_on.new.self (add-zero c.args.self.now.steps ∙ sym c.in-Err.ensures.err.1) c.in-Err.ensures.err

pub returns-in-Ok-clause-goes_on : goal.returns-in-Ok-clause-goes_on
returns-in-Ok-clause-goes_on g c =
    counted c.args.words.now.table_id c.args.words.now.key 1 (c.step_on.new.self.steps + 1) c.args.self.now c.step_on.new.self (ap (λ n. n + 1) (sym c.in-Ok.ensures.ok.1)) c.in-Ok.ensures.ok
