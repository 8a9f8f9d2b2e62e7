use Rattle.std.proofs.Common.{◌∙◌, refl, sym, ap, arith}
use Rattle.norec_core.specs.Accesses.{cost}
use Rattle.norec_core.specs.declared.step.Access.TheVariants.{Swap}
use Rattle.workers.proofs.Going.{by_none}
use Rattle.workers.proofs.Turns.{ready_makeable, ready_next, stepped}
use Rattle.workers.proofs.worker.Worker.swap.Goals as goal

pub make-answer-requires-clause-makeable : goal.make-answer-requires-clause-makeable
make-answer-requires-clause-makeable g c =
    ready_makeable c.args.words.now.key c.args.self.now.number c.args.self.now.thread.thread c.requires.worker.0 c.args.self.now.thread.accesses c.args.self.now.seat.me c.requires.worker.1.1 c.args.code.now c.requires.code c.args.self.now.thread.thread refl (Swap c.in-Some.from) (sym c.in-Some.ensures.some.swap)

pub make-answer-requires-clause-next : goal.make-answer-requires-clause-next
make-answer-requires-clause-next g c =
    ready_next c.args.words.now.key c.args.self.now.number c.args.self.now.thread.thread c.requires.worker.0 c.args.self.now.thread.accesses c.args.self.now.seat.me c.requires.worker.1.1 c.args.code.now c.requires.code c.args.self.now.thread.thread refl (Swap c.in-Some.from) (sym c.in-Some.ensures.some.swap)

pub returns-clause-made : goal.returns-clause-made
returns-clause-made g c = λ _. (
  refl,
  refl,
  λ steps was.
      let one = ap cost c.in-Some.ensures.some.swap in
      let b = c.take_swap.ensures.accesses in
      let r = stepped c.args.words.now.key c.args.self.now.number c.args.self.now.thread.thread steps c.args.self.now.thread.accesses c.args.self.now.seat.me was.1 c.args.code.now c.requires.code c.args.self.now.thread.thread refl
      (Swap c.in-Some.from) (sym c.in-Some.ensures.some.swap) c.make-answer.result c.make-answer.new.seat.me c.make-answer.ensures.made c.in-Some.ensures.some.goes_on
      c.take_swap.new.self.thread c.take_swap.ensures.thread c.take_swap.ensures.of c.take_swap.new.self.accesses (omega (arith, one, b)) in
      ((c.make-answer.ensures.seat.0 ∙ was.0, r.0), r.1),
)

pub returns-in_default-clause-not_made : goal.returns-in_default-clause-not_made
returns-in_default-clause-not_made g c = λ _. by_none c.args.words.now.table_id c.args.words.now.key c.args.self.now
