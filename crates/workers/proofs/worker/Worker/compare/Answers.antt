use Rattle.std.proofs.Common.{◌-◌, refl, arith}
use Rattle.workers.proofs.Going.{by_more, by_none, can_after, can_fewer}
use Rattle.workers.proofs.worker.Worker.compare.Goals as goal

pub entries-init : goal.entries-init
entries-init g c = record {
  can = can_fewer c.args.words.now.table_id c.args.words.now.key c.args.most _ c.args.self.now (omega arith) c.requires.worker;
  goes_on = by_none c.args.words.now.table_id c.args.words.now.key c.args.self.now;
  compares = c.requires.compares;
  still = λ doing h. h;
}

pub confirm-requires-clause-worker : goal.confirm-requires-clause-worker
confirm-requires-clause-worker g c = can_fewer c.args.words.now.table_id c.args.words.now.key (c.args.most - c.entries.passed) 1 c.entries.self (omega arith) c.entries.invariant.can

pub compare_word-requires-clause-worker : goal.compare_word-requires-clause-worker
compare_word-requires-clause-worker g c = can_fewer c.args.words.now.table_id c.args.words.now.key (c.args.most - c.entries.passed) 1 c.entries.self (omega arith) c.entries.invariant.can

pub returns-in_default-clause-goes_on : goal.returns-in_default-clause-goes_on
returns-in_default-clause-goes_on g c = by_more c.args.words.now.table_id c.args.words.now.key c.entries.passed 1 _ c.args.self.now c.entries.self c.confirm.new.self refl c.entries.invariant.goes_on c.confirm.ensures.goes_on

pub returns-in_default-clause-still : goal.returns-in_default-clause-still
returns-in_default-clause-still g c = λ _ doing h. c.confirm.ensures.still doing (c.entries.invariant.still doing h)

pub returns-then-not-compare_word-clause-goes_on : goal.returns-then-not-compare_word-clause-goes_on
returns-then-not-compare_word-clause-goes_on g c = by_more c.args.words.now.table_id c.args.words.now.key c.entries.passed 1 _ c.args.self.now c.entries.self c.compare_word.new.self refl c.entries.invariant.goes_on c.compare_word.ensures.goes_on

pub entries-preserved : goal.entries-preserved
entries-preserved g c = record {
  can = can_after c.args.words.now.table_id c.args.words.now.key (c.args.most - c.entries.passed) 1 _ c.entries.self c.compare_word.new.self (omega arith) c.entries.invariant.can c.compare_word.ensures.goes_on;
  goes_on = by_more c.args.words.now.table_id c.args.words.now.key c.entries.passed 1 _ c.args.self.now c.entries.self c.compare_word.new.self refl c.entries.invariant.goes_on c.compare_word.ensures.goes_on;
  compares = c.compare_word.ensures.next c.if-not-compare_word.false;
  still = λ doing h. c.compare_word.ensures.still c.if-not-compare_word.false doing (c.entries.invariant.still doing h);
}

pub returns-clause-goes_on : goal.returns-clause-goes_on
returns-clause-goes_on g c = by_more c.args.words.now.table_id c.args.words.now.key c.entries.passed 0 c.args.most c.args.self.now c.entries.self c.entries.self (let a = c.entries-test.false in let b = c.entries.auto.passed-end in omega (arith, a, b)) c.entries.invariant.goes_on (by_none c.args.words.now.table_id c.args.words.now.key c.entries.self)
