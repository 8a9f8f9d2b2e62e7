use Rattle.std.proofs.Common.{arith}
use Rattle.workers.proofs.Going.{by_more, can_after, can_fewer}
use Rattle.workers.proofs.worker.Worker.commit.Goals as goal

pub swap-requires-clause-worker : goal.swap-requires-clause-worker
swap-requires-clause-worker g c = let some = c.requires.some in can_fewer c.args.words.now.table_id c.args.words.now.key c.args.most 1 c.args.self.now (omega (arith, some)) c.requires.worker

pub store_all-requires-clause-worker : goal.store_all-requires-clause-worker
store_all-requires-clause-worker g c = can_after c.args.words.now.table_id c.args.words.now.key c.args.most 0 c.args.most c.args.self.now c.swap.new.self (omega arith) c.requires.worker (c.swap.ensures.not_made c.if-not-swap.true)

pub returns-then-not-swap-clause-goes_on : goal.returns-then-not-swap-clause-goes_on
returns-then-not-swap-clause-goes_on g c = by_more c.args.words.now.table_id c.args.words.now.key 0 c.store_all.result _ c.args.self.now c.swap.new.self c.store_all.new.self (omega arith) (c.swap.ensures.not_made c.if-not-swap.true) c.store_all.ensures.goes_on

pub store_all-stored-requires-clause-worker : goal.store_all-stored-requires-clause-worker
store_all-stored-requires-clause-worker g c = let some = c.requires.some in can_after c.args.words.now.table_id c.args.words.now.key c.args.most 1 _ c.args.self.now c.swap.new.self (omega (arith, some)) c.requires.worker (c.swap.ensures.made c.if-not-swap.false)

pub returns-clause-goes_on : goal.returns-clause-goes_on
returns-clause-goes_on g c = by_more c.args.words.now.table_id c.args.words.now.key 1 c.store_all-stored.result _ c.args.self.now c.swap.new.self c.store_all-stored.new.self (omega arith) (c.swap.ensures.made c.if-not-swap.false) c.store_all-stored.ensures.goes_on
