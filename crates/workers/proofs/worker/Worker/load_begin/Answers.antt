use Rattle.std.proofs.Common.{◌≡◌, ◌∙◌, refl, sym, ap, subst, arith}
use Rattle.syntax.specs.declared.thread_end.Status.TheVariants.{Running}
use Rattle.bytecode.specs.Code.{Configuration, effect}
use Rattle.frames.specs.Doings.{IsDoingAt}
use Rattle.frames.specs.declared.doing.Doing.TheVariants as doing
use Rattle.norec_core.specs.Accesses.{cost}
use Rattle.norec_core.specs.declared.step.Access.TheVariants.{LoadLock}
use Rattle.norec_core.specs.declared.step.Answer.TheVariants.{Value}
use Rattle.machine.specs.Threads.{Thread, access}
use Rattle.workers.proofs.Going.{by_same}
use Rattle.workers.proofs.Turns.{not_stepped, ready_next, stepped}
use Rattle.workers.proofs.Waiting.{begin_stands}
use Rattle.workers.proofs.worker.Worker.load_begin.Goals as goal

pub returns-then-not-prepare_begin-clause-not_made : goal.returns-then-not-prepare_begin-clause-not_made
returns-then-not-prepare_begin-clause-not_made g c = by_same c.args.words.now.table_id c.args.words.now.key c.args.self.now (record c.args.self.now { thread = c.prepare_begin.new.self }) refl refl
    (λ steps was.
    let r = not_stepped c.args.words.now.key c.args.self.now.number c.args.self.now.thread.thread steps c.args.self.now.thread.accesses c.args.self.now.seat.me was.1 c.args.code.now c.requires.code c.prepare_begin.new.self.thread c.prepare_begin.ensures.thread c.prepare_begin.new.self.accesses c.prepare_begin.ensures.accesses in
    ((was.0, r.0), r.1))

pub load_lock-lock-requires-clause-next : goal.load_lock-lock-requires-clause-next
load_lock-lock-requires-clause-next g c =
    let loads = c.prepare_begin.ensures.access c.if-not-prepare_begin.false in
    ready_next c.args.words.now.key c.args.self.now.number c.args.self.now.thread.thread c.requires.worker.0 c.args.self.now.thread.accesses c.args.self.now.seat.me c.requires.worker.1.1 c.args.code.now c.requires.code c.prepare_begin.new.self.thread c.prepare_begin.ensures.thread
    LoadLock (sym loads ∙ ap (access (effect c.args.code.now)) c.prepare_begin.ensures.thread)

pub take_begin-requires-clause-count : goal.take_begin-requires-clause-count
take_begin-requires-clause-count g c =
    let a = c.prepare_begin.ensures.accesses in
    let f = c.requires.worker.1.1.fewer in
    let r = c.requires.worker.2 in
    omega (arith, a, f, r)

pub returns-clause-made : goal.returns-clause-made
returns-clause-made g c = (
  refl,
  refl,
  λ steps was.
      let loads = c.prepare_begin.ensures.access c.if-not-prepare_begin.false in
      let one = ap cost loads in
      let a = c.prepare_begin.ensures.accesses in
      let b = c.take_begin.ensures.accesses in
      let r = stepped c.args.words.now.key c.args.self.now.number c.args.self.now.thread.thread steps c.args.self.now.thread.accesses c.args.self.now.seat.me was.1 c.args.code.now c.requires.code c.prepare_begin.new.self.thread c.prepare_begin.ensures.thread
      LoadLock (sym loads ∙ ap (access (effect c.args.code.now)) c.prepare_begin.ensures.thread) (Value c.load_lock-lock.result) c.load_lock-lock.new.seat.me (c.load_lock-lock.result, refl, c.load_lock-lock.ensures.took) refl
      c.take_begin.new.self.thread c.take_begin.ensures.thread c.take_begin.ensures.of c.take_begin.new.self.accesses (omega (arith, one, a, b)) in
      ((c.load_lock-lock.ensures.seat.0 ∙ was.0, r.0), r.1),
)

pub returns-clause-again : goal.returns-clause-again
returns-clause-again g c = λ odd.
    let begins = c.prepare_begin.ensures.begins c.if-not-prepare_begin.false in
    begin_stands c.args.code.now c.args.to c.load_lock-lock.result odd c.prepare_begin.new.self c.take_begin.new.self begins.attempt begins.running
    (subst (λ (t : Thread Configuration). t.status ≡ Running → IsDoingAt c.args.code.now t.configuration (doing.Begin c.args.to)) (sym c.prepare_begin.ensures.thread) c.requires.stands)
    c.take_begin.ensures.thread
