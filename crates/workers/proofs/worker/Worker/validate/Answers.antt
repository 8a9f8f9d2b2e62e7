use Rattle.std.proofs.Common.{◌-◌, arith}
use Rattle.workers.proofs.Going.{by_more, by_none, can_after, can_fewer}
use Rattle.workers.proofs.worker.Worker.validate.Goals as goal

pub steps-init : goal.steps-init
steps-init g c = record {
  few = omega arith;
  can = c.requires.worker;
  goes_on = by_more c.args.words.now.table_id c.args.words.now.key 0 0 _ c.args.self.now c.args.self.now c.args.self.now (omega arith) (by_none c.args.words.now.table_id c.args.words.now.key c.args.self.now) (by_none c.args.words.now.table_id c.args.words.now.key c.args.self.now);
  stands = c.doing-doing.ensures;
}

pub wait-requires-clause-worker : goal.wait-requires-clause-worker
wait-requires-clause-worker g c = let some = c.steps-test.true in can_fewer c.args.words.now.table_id c.args.words.now.key c.steps.left 1 c.steps.self (omega (arith, some)) c.steps.invariant.can

pub steps-preserved-then-is_waiting : goal.steps-preserved-then-is_waiting
steps-preserved-then-is_waiting g c =
    let some = c.steps-test.true in
    let few = c.steps.invariant.few in
    record {
      few = omega (arith, few);
      can = can_after c.args.words.now.table_id c.args.words.now.key c.steps.left 1 _ c.steps.self c.wait.new.self (omega (arith, some)) c.steps.invariant.can c.wait.ensures.goes_on;
      goes_on = by_more c.args.words.now.table_id c.args.words.now.key (c.args.most - c.steps.left) 1 _ c.args.self.now c.steps.self c.wait.new.self (omega (arith, few, some)) c.steps.invariant.goes_on c.wait.ensures.goes_on;
      stands = c.wait.ensures.still c.doing-doing.result c.steps.invariant.stands;
    }

pub returns-then-not-goes_on-clause-goes_on : goal.returns-then-not-goes_on-clause-goes_on
returns-then-not-goes_on-clause-goes_on g c =
    let few = c.steps.invariant.few in
    let made = c.compare-compared.ensures.few in
    by_more c.args.words.now.table_id c.args.words.now.key (c.args.most - c.steps.left) c.compare-compared.result.0 _ c.args.self.now c.steps.self c.compare-compared.new.self (omega (arith, few, made)) c.steps.invariant.goes_on c.compare-compared.ensures.goes_on

pub steps-preserved : goal.steps-preserved
steps-preserved g c =
    let few = c.steps.invariant.few in
    let made = c.compare-compared.ensures.few in
    record {
      few = omega (arith, few);
      can = can_after c.args.words.now.table_id c.args.words.now.key c.steps.left c.compare-compared.result.0 _ c.steps.self c.compare-compared.new.self (omega (arith, made)) c.steps.invariant.can c.compare-compared.ensures.goes_on;
      goes_on = by_more c.args.words.now.table_id c.args.words.now.key (c.args.most - c.steps.left) c.compare-compared.result.0 _ c.args.self.now c.steps.self c.compare-compared.new.self (omega (arith, few, made)) c.steps.invariant.goes_on c.compare-compared.ensures.goes_on;
      stands = c.compare-compared.ensures.still c.if-not-goes_on.false c.doing-doing.result c.steps.invariant.stands;
    }

pub returns-clause-goes_on : goal.returns-clause-goes_on
returns-clause-goes_on g c =
    let over = c.steps-test.false in
    by_more c.args.words.now.table_id c.args.words.now.key (c.args.most - c.steps.left) 0 c.args.most c.args.self.now c.steps.self c.steps.self (omega (arith, over)) c.steps.invariant.goes_on (by_none c.args.words.now.table_id c.args.words.now.key c.steps.self)
