use Rattle.std.proofs.Common.{◌∙◌, refl, sym, ap, arith}
use Rattle.norec_core.specs.Accesses.{cost}
use Rattle.workers.proofs.Turns.{ready_makeable, ready_next, stepped}
use Rattle.workers.proofs.worker.Worker.store.Goals as goal

pub make-answer-requires-clause-makeable : goal.make-answer-requires-clause-makeable
make-answer-requires-clause-makeable g c =
    ready_makeable c.args.words.now.key c.args.self.now.number c.args.self.now.thread.thread c.requires.worker.0 c.args.self.now.thread.accesses c.args.self.now.seat.me c.requires.worker.1.1 c.args.code.now c.requires.code c.args.self.now.thread.thread refl c.store_access-access.result c.store_access-access.ensures.access

pub make-answer-requires-clause-next : goal.make-answer-requires-clause-next
make-answer-requires-clause-next g c =
    ready_next c.args.words.now.key c.args.self.now.number c.args.self.now.thread.thread c.requires.worker.0 c.args.self.now.thread.accesses c.args.self.now.seat.me c.requires.worker.1.1 c.args.code.now c.requires.code c.args.self.now.thread.thread refl c.store_access-access.result c.store_access-access.ensures.access

pub returns-clause-goes_on : goal.returns-clause-goes_on
returns-clause-goes_on g c = (
  refl,
  refl,
  λ steps was.
      let one = sym (ap cost c.store_access-access.ensures.access) ∙ c.store_access-access.ensures.cost in
      let b = c.take_store.ensures.accesses in
      let r = stepped c.args.words.now.key c.args.self.now.number c.args.self.now.thread.thread steps c.args.self.now.thread.accesses c.args.self.now.seat.me was.1 c.args.code.now c.requires.code c.args.self.now.thread.thread refl
      c.store_access-access.result c.store_access-access.ensures.access c.make-answer.result c.make-answer.new.seat.me c.make-answer.ensures.made c.store_access-access.ensures.goes_on
      c.take_store.new.self.thread (c.take_store.ensures.thread c.make-answer.result) c.take_store.ensures.of c.take_store.new.self.accesses (omega (arith, one, b)) in
      ((c.make-answer.ensures.seat.0 ∙ was.0, r.0), r.1),
)
