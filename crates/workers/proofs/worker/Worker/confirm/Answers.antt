use Rattle.std.proofs.Common.{◌∙◌, refl}
use Rattle.workers.proofs.Waiting.{lock_is_next, lock_loaded}
use Rattle.workers.proofs.worker.Worker.confirm.Goals as goal

pub load_lock-lock-requires-clause-next : goal.load_lock-lock-requires-clause-next
load_lock-lock-requires-clause-next g c = lock_is_next c.args.words.now.key c.args.self.now.number c.args.self.now.thread.thread c.requires.worker.0 c.args.self.now.thread.accesses c.args.self.now.seat.me c.requires.worker.1.1 c.args.code.now c.requires.code c.requires.access

pub returns-clause-goes_on : goal.returns-clause-goes_on
returns-clause-goes_on g c = (
  refl,
  refl,
  λ steps was.
      let r = lock_loaded c.args.words.now.key c.args.self.now.number c.args.self.now.thread.thread steps c.args.self.now.thread.accesses c.args.self.now.seat.me was.1 c.args.code.now c.requires.code c.requires.access
      c.load_lock-lock.result c.load_lock-lock.new.seat.me c.load_lock-lock.ensures.took c.take_validation.new.self.thread c.take_validation.ensures.thread c.take_validation.ensures.of _ c.take_validation.new.self.accesses refl c.take_validation.ensures.accesses in
      ((c.load_lock-lock.ensures.seat.0 ∙ was.0, r.0), r.1),
)
