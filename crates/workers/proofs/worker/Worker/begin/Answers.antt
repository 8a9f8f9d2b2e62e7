use Rattle.std.proofs.Common.{◌-◌, ℕ, Option, refl, subst, arith}
use Rattle.std.specs.Prelude.{IfNone}
use Rattle.workers.specs.inner.Stepping.{StepsBy}
use Rattle.workers.proofs.Going.{by_more, by_none, can_after, can_fewer}
use Rattle.workers.proofs.worker.Worker.begin.Goals as goal

pub loads-init : goal.loads-init
loads-init g c = record {
  can = can_fewer c.args.words.now.table_id c.args.words.now.key c.args.most _ c.args.self.now (omega arith) c.requires.worker;
  goes_on = by_none c.args.words.now.table_id c.args.words.now.key c.args.self.now;
  stands = c.requires.stands;
}

pub load_begin-requires-clause-worker : goal.load_begin-requires-clause-worker
load_begin-requires-clause-worker g c = can_fewer c.args.words.now.table_id c.args.words.now.key (c.args.most - c.loads.loaded) 1 c.loads.self (omega arith) c.loads.invariant.can

pub returns-in_default-clause-goes_on : goal.returns-in_default-clause-goes_on
returns-in_default-clause-goes_on g c = by_more c.args.words.now.table_id c.args.words.now.key c.loads.loaded 0 _ c.args.self.now c.loads.self c.load_begin.new.self (omega arith) c.loads.invariant.goes_on
    (subst (λ (r : Option ℕ). IfNone r (StepsBy c.args.words.now.table_id c.args.words.now.key 0 c.loads.self c.load_begin.new.self)) c.in_default.is c.load_begin.ensures.not_made)

pub returns-then-lock-eq0-clause-goes_on : goal.returns-then-lock-eq0-clause-goes_on
returns-then-lock-eq0-clause-goes_on g c = by_more c.args.words.now.table_id c.args.words.now.key c.loads.loaded 1 _ c.args.self.now c.loads.self c.load_begin.new.self refl c.loads.invariant.goes_on c.in-Some.ensures.made

pub loads-preserved : goal.loads-preserved
loads-preserved g c = record {
  can = can_after c.args.words.now.table_id c.args.words.now.key (c.args.most - c.loads.loaded) 1 _ c.loads.self c.load_begin.new.self (omega arith) c.loads.invariant.can c.in-Some.ensures.made;
  goes_on = by_more c.args.words.now.table_id c.args.words.now.key c.loads.loaded 1 _ c.args.self.now c.loads.self c.load_begin.new.self refl c.loads.invariant.goes_on c.in-Some.ensures.made;
  stands = c.in-Some.ensures.again (let odd = c.if-lock-eq0.false in omega (arith, odd));
}

pub returns-clause-goes_on : goal.returns-clause-goes_on
returns-clause-goes_on g c = by_more c.args.words.now.table_id c.args.words.now.key c.loads.loaded 0 c.args.most c.args.self.now c.loads.self c.loads.self (let a = c.loads-test.false in let b = c.loads.auto.loaded-end in omega (arith, a, b)) c.loads.invariant.goes_on (by_none c.args.words.now.table_id c.args.words.now.key c.loads.self)
