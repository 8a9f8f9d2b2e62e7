use Rattle.std.proofs.Common.{◌∙◌, ℕ, refl, sym, ap, subst, arith}
use Rattle.bytecode.specs.Code.{effect}
use Rattle.bytecode.specs.Valid.{cells_of}
use Rattle.norec_core.specs.declared.step.Access.TheVariants.{LoadWord}
use Rattle.norec_core.specs.declared.step.Answer.TheVariants.{Value}
use Rattle.machine.specs.States.{IsWordOf}
use Rattle.machine.specs.Threads.{step_with}
use Rattle.workers.proofs.Waiting.{cell_fits, loaded_fits, word_is_next, word_loaded}
use Rattle.workers.proofs.worker.Worker.compare_word.Goals as goal

pub load_word-found-requires-clause-table : goal.load_word-found-requires-clause-table
load_word-found-requires-clause-table g c =
    let cell = cell_fits c.args.words.now.key c.args.self.now.number c.args.self.now.thread.thread c.requires.worker.0 c.args.self.now.thread.accesses c.args.self.now.seat.me c.requires.worker.1.1 c.args.code.now c.requires.code c.args.entry.0 c.requires.access in
    let same = ap cells_of c.requires.code in
    let all = c.requires.table in
    (c.requires.worker.1.0, omega (arith, cell, same, all))

pub load_word-found-requires-clause-next : goal.load_word-found-requires-clause-next
load_word-found-requires-clause-next g c = word_is_next c.args.words.now.key c.args.self.now.number c.args.self.now.thread.thread c.requires.worker.0 c.args.self.now.thread.accesses c.args.self.now.seat.me c.requires.worker.1.1 c.args.code.now c.requires.code c.args.entry.0 c.requires.access

pub take_unequal-requires-clause-word : goal.take_unequal-requires-clause-word
take_unequal-requires-clause-word g c =
    loaded_fits c.args.words.now.key c.args.self.now.number c.args.self.now.thread.thread c.requires.worker.0 c.args.self.now.thread.accesses c.args.self.now.seat.me c.requires.worker.1.1 c.args.code.now c.requires.code c.args.entry.0 c.requires.access c.load_word-found.result c.load_word-found.new.seat.me c.load_word-found.ensures.took

pub returns-then-found-word-clause-goes_on : goal.returns-then-found-word-clause-goes_on
returns-then-found-word-clause-goes_on g c = (
  refl,
  refl,
  λ steps was.
      let r = word_loaded c.args.words.now.key c.args.self.now.number c.args.self.now.thread.thread steps c.args.self.now.thread.accesses c.args.self.now.seat.me was.1 c.args.code.now c.requires.code c.args.entry.0 c.requires.access
      c.load_word-found.result c.load_word-found.new.seat.me c.load_word-found.ensures.took c.take_unequal.new.self.thread c.take_unequal.ensures.thread c.take_unequal.ensures.of _ c.take_unequal.new.self.accesses refl c.take_unequal.ensures.accesses in
      ((c.load_word-found.ensures.seat.0 ∙ was.0, r.0), r.1),
)

pub take_equal-requires-clause-word : goal.take_equal-requires-clause-word
take_equal-requires-clause-word g c =
    subst (λ (n : ℕ). IsWordOf c.args.code.now (LoadWord c.args.entry.0) (Value n)) c.if-found-word.false (loaded_fits c.args.words.now.key c.args.self.now.number c.args.self.now.thread.thread c.requires.worker.0 c.args.self.now.thread.accesses c.args.self.now.seat.me c.requires.worker.1.1 c.args.code.now c.requires.code c.args.entry.0 c.requires.access c.load_word-found.result c.load_word-found.new.seat.me c.load_word-found.ensures.took)

pub returns-clause-goes_on : goal.returns-clause-goes_on
returns-clause-goes_on g c = (
  refl,
  refl,
  λ steps was.
      let r = word_loaded c.args.words.now.key c.args.self.now.number c.args.self.now.thread.thread steps c.args.self.now.thread.accesses c.args.self.now.seat.me was.1 c.args.code.now c.requires.code c.args.entry.0 c.requires.access
      c.load_word-found.result c.load_word-found.new.seat.me c.load_word-found.ensures.took c.take_equal.new.self.thread (c.take_equal.ensures.thread ∙ ap (λ (n : ℕ). (step_with (effect c.args.code.now) c.args.self.now.thread.thread (Value n)).thread) (sym c.if-found-word.false)) c.take_equal.ensures.of _ c.take_equal.new.self.accesses refl c.take_equal.ensures.accesses in
      ((c.load_word-found.ensures.seat.0 ∙ was.0, r.0), r.1),
)
