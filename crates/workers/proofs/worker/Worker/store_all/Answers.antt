use Rattle.std.proofs.Common.{◌-◌, refl, arith}
use Rattle.workers.proofs.Going.{by_more, by_none, can_after, can_fewer}
use Rattle.workers.proofs.worker.Worker.store_all.Goals as goal

pub stores-init : goal.stores-init
stores-init g c = record {
  can = can_fewer c.args.words.now.table_id c.args.words.now.key c.args.most _ c.args.self.now (omega arith) c.requires.worker;
  goes_on = by_none c.args.words.now.table_id c.args.words.now.key c.args.self.now;
  stands = c.requires.stands;
}

pub store-requires-clause-worker : goal.store-requires-clause-worker
store-requires-clause-worker g c = can_fewer c.args.words.now.table_id c.args.words.now.key (c.args.most - c.stores.made) 1 c.stores.self (omega arith) c.stores.invariant.can

pub returns-then-not-store-clause-goes_on : goal.returns-then-not-store-clause-goes_on
returns-then-not-store-clause-goes_on g c = by_more c.args.words.now.table_id c.args.words.now.key c.stores.made 1 _ c.args.self.now c.stores.self c.store.new.self refl c.stores.invariant.goes_on c.store.ensures.goes_on

pub stores-preserved : goal.stores-preserved
stores-preserved g c = record {
  can = can_after c.args.words.now.table_id c.args.words.now.key (c.args.most - c.stores.made) 1 _ c.stores.self c.store.new.self (omega arith) c.stores.invariant.can c.store.ensures.goes_on;
  goes_on = by_more c.args.words.now.table_id c.args.words.now.key c.stores.made 1 _ c.args.self.now c.stores.self c.store.new.self refl c.stores.invariant.goes_on c.store.ensures.goes_on;
  stands = c.store.ensures.again c.if-not-store.false;
}

pub returns-clause-goes_on : goal.returns-clause-goes_on
returns-clause-goes_on g c = by_more c.args.words.now.table_id c.args.words.now.key c.stores.made 0 c.args.most c.args.self.now c.stores.self c.stores.self (let a = c.stores-test.false in let b = c.stores.auto.made-end in omega (arith, a, b)) c.stores.invariant.goes_on (by_none c.args.words.now.table_id c.args.words.now.key c.stores.self)
