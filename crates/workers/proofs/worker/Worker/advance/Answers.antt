use Rattle.std.proofs.Common.{refl, ◌∙◌, subst}
use Rattle.bytecode.specs.Code.{Code}
use Rattle.machine.specs.Standing.{IsThreadOf}
use Rattle.workers.proofs.worker.Worker.advance.Goals as goal

pub advance-requires-clause-of : goal.advance-requires-clause-of
advance-requires-clause-of g c = subst (λ (k : Code). IsThreadOf k c.args.self.now.thread.thread) c.requires.code c.requires.worker.1.1.of_code

pub advance-requires-clause-can : goal.advance-requires-clause-can
advance-requires-clause-can g c = record {
  words = c.requires.table;
  code_is = c.requires.code;
  seat_is = c.requires.worker.1.0;
  number = c.args.self.now.number;
  steps = c.requires.worker.0;
  works = c.requires.worker.1.1;
  room = c.requires.worker.2;
}

pub returns-clause-goes_on : goal.returns-clause-goes_on
returns-clause-goes_on g c = (
  refl,
  refl,
  λ steps was.
      let led = c.advance.ensures.leads in
      let x = led.3 c.requires.code c.args.self.now.number steps was.1 in
      ((led.2 ∙ was.0, x.0), x.1),
)
