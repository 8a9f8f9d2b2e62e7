use Rattle.std.proofs.Common.{refl, arith}
use Rattle.workers.proofs.Going.{by_more, can_after}
use Rattle.workers.proofs.worker.Worker.operate.Goals as goal

pub validate-passed-requires-clause-worker : goal.validate-passed-requires-clause-worker
validate-passed-requires-clause-worker g c =
    let none = c.if-made-gt0.false in
    can_after c.args.words.now.table_id c.args.words.now.key c.args.most c.complete-made.result c.args.most c.args.self.now c.complete-made.new.self (omega (arith, none)) c.requires.worker c.complete-made.ensures.goes_on

pub returns-then-passed-gt0-clause-ok : goal.returns-then-passed-gt0-clause-ok
returns-then-passed-gt0-clause-ok g c =
    let none = c.if-made-gt0.false in (
      c.if-passed-gt0.true,
      c.validate-passed.ensures.few,
      by_more c.args.words.now.table_id c.args.words.now.key c.complete-made.result c.validate-passed.result _ c.args.self.now c.complete-made.new.self c.validate-passed.new.self (omega (arith, none)) c.complete-made.ensures.goes_on c.validate-passed.ensures.goes_on,
    )

pub step_on-requires-clause-worker : goal.step_on-requires-clause-worker
step_on-requires-clause-worker g c =
    let none = c.if-made-gt0.false in
    let no_more = c.if-passed-gt0.false in
    let before = by_more c.args.words.now.table_id c.args.words.now.key c.complete-made.result c.validate-passed.result 0 c.args.self.now c.complete-made.new.self c.validate-passed.new.self (omega (arith, none, no_more)) c.complete-made.ensures.goes_on c.validate-passed.ensures.goes_on in
    let some = c.requires.some in
    can_after c.args.words.now.table_id c.args.words.now.key c.args.most 0 1 c.args.self.now c.validate-passed.new.self (omega (arith, some)) c.requires.worker before

pub returns-in-Err-clause-err : goal.returns-in-Err-clause-err
returns-in-Err-clause-err g c =
    let none = c.if-made-gt0.false in
    let no_more = c.if-passed-gt0.false in
    let before = by_more c.args.words.now.table_id c.args.words.now.key c.complete-made.result c.validate-passed.result 0 c.args.self.now c.complete-made.new.self c.validate-passed.new.self (omega (arith, none, no_more)) c.complete-made.ensures.goes_on c.validate-passed.ensures.goes_on in
    by_more c.args.words.now.table_id c.args.words.now.key 0 0 0 c.args.self.now c.validate-passed.new.self c.step_on.new.self refl before c.in-Err.ensures.err

pub returns-in-Ok-clause-ok : goal.returns-in-Ok-clause-ok
returns-in-Ok-clause-ok g c =
    let none = c.if-made-gt0.false in
    let no_more = c.if-passed-gt0.false in
    let before = by_more c.args.words.now.table_id c.args.words.now.key c.complete-made.result c.validate-passed.result 0 c.args.self.now c.complete-made.new.self c.validate-passed.new.self (omega (arith, none, no_more)) c.complete-made.ensures.goes_on c.validate-passed.ensures.goes_on in
    let some = c.requires.some in (omega arith, omega (arith, some), by_more c.args.words.now.table_id c.args.words.now.key 0 1 1 c.args.self.now c.validate-passed.new.self c.step_on.new.self refl before c.in-Ok.ensures.ok)
