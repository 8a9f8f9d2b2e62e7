use Rattle.std.proofs.Common.{◌+◌, ◌∙◌, refl, sym, ap, subst, arith}
use Rattle.bytecode.specs.Valid.{cells_of}
use Rattle.norec_core.specs.declared.step.Access.TheVariants.{LoadLock, LoadWord}
use Rattle.machine.specs.States.{told_twice}
use Rattle.shared_words.specs.Rule.{IsNext}
use Rattle.shared_words.specs.Setup.{Setup}
use Rattle.workers.proofs.Going.{goes_further}
use Rattle.workers.proofs.Loading.{both_stepped, loaded_fits, lock_next, word_makeable}
use Rattle.workers.proofs.Turns.{ready_next}
use Rattle.workers.proofs.loads.SeatLoadsLoads.load.Goals as goal

pub load_word-word-requires-clause-table : goal.load_word-word-requires-clause-table
load_word-word-requires-clause-table g c =
    let r = c.requires in
    let can = r.6.can in
    let led = r.6.led in
    let at = r.5 in
    let is = (led.3 can.code_is can.number can.steps can.works).0 in
    let cell = word_makeable r.1.words.now.key can.number at.thread (can.steps + r.3) at.accesses c.args.self.now.seat.now.me is r.0 can.code_is at.thread refl c.args.cell r.6.loads.word in
    let same = ap cells_of can.code_is in
    let all = can.words in
    let table = ap (λ w. w.table_id) led.0 in
    let words = ap (λ w. w.table_id.words) led.0 in
    (led.2 ∙ can.seat_is ∙ sym table, omega (arith, cell, same, all, words))

pub load_word-word-requires-clause-next : goal.load_word-word-requires-clause-next
load_word-word-requires-clause-next g c =
    let r = c.requires in
    let can = r.6.can in
    let led = r.6.led in
    let at = r.5 in
    let is = (led.3 can.code_is can.number can.steps can.works).0 in
    subst (λ (k : Setup). IsNext k c.args.self.now.seat.now.me (LoadWord c.args.cell)) (sym (ap (λ w. w.key) led.0))
    (ready_next r.1.words.now.key can.number at.thread (can.steps + r.3) at.accesses c.args.self.now.seat.now.me is r.0 can.code_is at.thread refl (LoadWord c.args.cell) (sym r.6.loads.word))

pub load_lock-lock-requires-clause-next : goal.load_lock-lock-requires-clause-next
load_lock-lock-requires-clause-next g c =
    let r = c.requires in
    let can = r.6.can in
    let led = r.6.led in
    let at = r.5 in
    let is = (led.3 can.code_is can.number can.steps can.works).0 in
    let key = r.1.words.now.key in
    let fits = loaded_fits key can.number at.thread (can.steps + r.3) at.accesses c.args.self.now.seat.now.me is r.0 can.code_is at.thread refl c.args.cell r.6.loads.word c.load_word-word.result c.load_word-word.new.seat.me c.load_word-word.ensures.took in
    subst (λ (k : Setup). IsNext k c.load_word-word.new.seat.me LoadLock) (sym (ap (λ w. w.key) led.0))
    (lock_next key can.number at.thread (can.steps + r.3) at.accesses c.args.self.now.seat.now.me is r.0 can.code_is at.thread refl c.args.cell r.6.loads.word c.load_word-word.result c.load_word-word.new.seat.me c.load_word-word.ensures.took
    (r.6.loads.between c.load_word-word.result fits) (r.6.loads.lock c.load_word-word.result fits))

pub returns-clause-word : goal.returns-clause-word
returns-clause-word g c =
    let r = c.requires in
    let can = r.6.can in
    let at = r.5 in
    let is = (r.6.led.3 can.code_is can.number can.steps can.works).0 in
    loaded_fits r.1.words.now.key can.number at.thread (can.steps + r.3) at.accesses c.args.self.now.seat.now.me is r.0 can.code_is at.thread refl c.args.cell r.6.loads.word c.load_word-word.result c.load_word-word.new.seat.me c.load_word-word.ensures.took

pub returns-clause-count : goal.returns-clause-count
returns-clause-count g c = λ code s from n m at h.
    let can = h.can in
    let fewer = (h.led.3 can.code_is can.number can.steps can.works).0.fewer in
    let few = h.few in
    let room = can.room in
    omega (arith, fewer, few, room)

pub returns-clause-leads : goal.returns-clause-leads
returns-clause-leads g c = λ code s from n at led loads of. (
  led.0,
  led.1,
  c.load_lock-lock.ensures.seat.0 ∙ c.load_word-word.ensures.seat.0 ∙ led.2,
  λ same number steps was.
      let key = s.words.now.key in
      let x = led.3 same number steps was in
      let fits = loaded_fits key number at.thread (steps + n) at.accesses c.args.self.now.seat.now.me x.0 code same at.thread refl c.args.cell loads.word c.load_word-word.result c.load_word-word.new.seat.me c.load_word-word.ensures.took in
      let b = both_stepped key number at.thread (steps + n) at.accesses c.args.self.now.seat.now.me x.0 code same at.thread refl c.args.cell loads.word c.load_word-word.result c.load_word-word.new.seat.me c.load_word-word.ensures.took
      (loads.between c.load_word-word.result fits) (loads.lock c.load_word-word.result fits) c.load_lock-lock.result c.load_lock-lock.new.seat.me c.load_lock-lock.ensures.took (told_twice code at.thread c.load_word-word.result c.load_lock-lock.result).thread refl of (steps + (n + 2)) (at.accesses + 2) (omega arith) refl in
      (b.0, goes_further key.code was.part x.0.part b.0.part was.now x.0.now b.0.now x.1 b.1),
)
