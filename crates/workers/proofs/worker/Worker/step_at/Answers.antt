use Rattle.std.proofs.Common.{◌+◌, ◌∙◌, Err, refl, sym, ap, subst}
use Rattle.norec_core.specs.Accesses.{cost}
use Rattle.bytecode.specs.Code.{Configuration, effect}
use Rattle.machine.specs.Threads.{Thread, access}
use Rattle.workers.specs.Works.{StopsAt}
use Rattle.workers.proofs.Stopping.{stops_at}
use Rattle.workers.proofs.Going.{by_same}
use Rattle.workers.proofs.Turns.{answer_ready, not_stepped, ready_makeable, ready_next, room_for, stepped}
use Rattle.workers.proofs.worker.Worker.step_at.Goals as goal

pub returns-in-Err-clause-err : goal.returns-in-Err-clause-err
returns-in-Err-clause-err g c = by_same c.args.words.now.table_id c.args.words.now.key c.args.self.now (record c.args.self.now { thread = c.prepare_at.new.self }) refl refl
    (λ steps was.
    let r = not_stepped c.args.words.now.key c.args.self.now.number c.args.self.now.thread.thread steps c.args.self.now.thread.accesses c.args.self.now.seat.me was.1 c.args.code.now c.requires.code c.prepare_at.new.self.thread c.prepare_at.ensures.thread c.prepare_at.new.self.accesses c.prepare_at.ensures.accesses in
    ((was.0, r.0), r.1))

pub make-answer-requires-clause-makeable : goal.make-answer-requires-clause-makeable
make-answer-requires-clause-makeable g c =
    ready_makeable c.args.words.now.key c.args.self.now.number c.args.self.now.thread.thread c.requires.worker.0 c.args.self.now.thread.accesses c.args.self.now.seat.me c.requires.worker.1.1 c.args.code.now c.requires.code c.prepare_at.new.self.thread c.prepare_at.ensures.thread c.in-Ok.access c.in-Ok.ensures.access.0

pub make-answer-requires-clause-next : goal.make-answer-requires-clause-next
make-answer-requires-clause-next g c =
    ready_next c.args.words.now.key c.args.self.now.number c.args.self.now.thread.thread c.requires.worker.0 c.args.self.now.thread.accesses c.args.self.now.seat.me c.requires.worker.1.1 c.args.code.now c.requires.code c.prepare_at.new.self.thread c.prepare_at.ensures.thread c.in-Ok.access c.in-Ok.ensures.access.0

pub told_at-told-requires-clause-fits : goal.told_at-told-requires-clause-fits
told_at-told-requires-clause-fits g c =
    (answer_ready c.args.words.now.key c.args.self.now.number c.args.self.now.thread.thread c.requires.worker.0 c.args.self.now.thread.accesses c.args.self.now.seat.me c.requires.worker.1.1 c.args.code.now c.requires.code c.prepare_at.new.self.thread c.prepare_at.ensures.thread c.in-Ok.access c.in-Ok.ensures.access.0
    c.make-answer.result c.make-answer.new.seat.me c.make-answer.ensures.made).0

pub told_at-told-requires-clause-word : goal.told_at-told-requires-clause-word
told_at-told-requires-clause-word g c =
    (answer_ready c.args.words.now.key c.args.self.now.number c.args.self.now.thread.thread c.requires.worker.0 c.args.self.now.thread.accesses c.args.self.now.seat.me c.requires.worker.1.1 c.args.code.now c.requires.code c.prepare_at.new.self.thread c.prepare_at.ensures.thread c.in-Ok.access c.in-Ok.ensures.access.0
    c.make-answer.result c.make-answer.new.seat.me c.make-answer.ensures.made).1

pub told_at-told-requires-clause-count : goal.told_at-told-requires-clause-count
told_at-told-requires-clause-count g c = room_for (access (effect c.args.code.now) c.prepare_at.new.self.thread) c.prepare_at.new.self.accesses c.args.self.now.thread.accesses c.requires.worker.0 c.prepare_at.ensures.accesses c.requires.worker.1.1.fewer c.requires.worker.2

pub returns-clause-ok : goal.returns-clause-ok
returns-clause-ok g c = (
  refl,
  refl,
  λ steps was.
      let r = stepped c.args.words.now.key c.args.self.now.number c.args.self.now.thread.thread steps c.args.self.now.thread.accesses c.args.self.now.seat.me was.1 c.args.code.now c.requires.code c.prepare_at.new.self.thread c.prepare_at.ensures.thread c.in-Ok.access c.in-Ok.ensures.access.0
      c.make-answer.result c.make-answer.new.seat.me c.make-answer.ensures.made c.in-Ok.ensures.access.1 c.told_at-told.new.self.thread c.told_at-told.ensures.thread c.told_at-told.ensures.of c.told_at-told.new.self.accesses (c.told_at-told.ensures.accesses ∙ ap (λ n. n + cost (access (effect c.args.code.now) c.prepare_at.new.self.thread)) c.prepare_at.ensures.accesses) in
      ((c.make-answer.ensures.seat.0 ∙ was.0, r.0), r.1),
)

pub returns-in-Err-clause-stop : goal.returns-in-Err-clause-stop
returns-in-Err-clause-stop g c =
    let th = c.args.self.now.thread in
    subst (λ (t : Thread Configuration). StopsAt c.args.code.now t c.in-Err.stop) (sym c.prepare_at.ensures.thread)
    (stops_at c.args.code.now th.thread th.ready c.in-Err.stop c.in-Err.ensures.err.0 (λ e. c.in-Err.ensures.full (ap Err e)) (λ e. c.in-Err.ensures.used_up.0 (ap Err e)))
