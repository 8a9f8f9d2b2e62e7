use Rattle.std.proofs.Common.{◌≡◌, ◌-◌, Option, sym, subst, arith}
use Rattle.std.specs.Prelude.{IfNone}
use Rattle.frames.specs.declared.doing.Doing.{Doing}
use Rattle.shared_words.specs.Setup.{Setup}
use Rattle.workers.specs.inner.Stepping.{CanStep, StepsBy}
use Rattle.workers.proofs.Going.{by_more, by_none, can_after}
use Rattle.workers.proofs.worker.Worker.run_on.Goals as goal

pub turns-init : goal.turns-init
turns-init g c = record {
  few = omega arith;
  can = (c.args.self.now.steps, c.requires.worker, c.requires.room);
  goes_on = by_more c.args.hall.now.table.shared.table_id c.args.hall.now.setup 0 0 _ c.args.self.now c.args.self.now c.args.self.now (omega arith) (by_none c.args.hall.now.table.shared.table_id c.args.hall.now.setup c.args.self.now) (by_none c.args.hall.now.table.shared.table_id c.args.hall.now.setup c.args.self.now);
}

pub returns-in_default-clause-goes_on : goal.returns-in_default-clause-goes_on
returns-in_default-clause-goes_on g c =
    let all = subst (λ (d : Option Doing). IfNone d (c.advance-rested.result.0 ≡ c.turns.left)) c.in_default.is c.advance-rested.ensures.all in
    let few = c.turns.invariant.few in
    by_more c.args.hall.now.table.shared.table_id c.args.hall.now.setup (c.args.budget - c.turns.left) c.advance-rested.result.0 c.args.budget c.args.self.now c.turns.self c.advance-rested.new.self (omega (arith, all, few)) c.turns.invariant.goes_on (subst (λ (k : Setup). StepsBy c.args.hall.now.table.shared.table_id k c.advance-rested.result.0 c.turns.self c.advance-rested.new.self) c.args.hall.now.key c.advance-rested.ensures.goes_on)

pub advance-rested-requires-clause-worker : goal.advance-rested-requires-clause-worker
advance-rested-requires-clause-worker g c = subst (λ (k : Setup). CanStep c.args.hall.now.table.shared.table_id k c.turns.left c.turns.self) (sym c.args.hall.now.key) c.turns.invariant.can

pub operate-requires-clause-worker : goal.operate-requires-clause-worker
operate-requires-clause-worker g c =
    let z = c.args.hall.now.table.shared.table_id in
    let key = c.args.hall.now.setup in
    let go = subst (λ (k : Setup). StepsBy c.args.hall.now.table.shared.table_id k c.advance-rested.result.0 c.turns.self c.advance-rested.new.self) c.args.hall.now.key c.advance-rested.ensures.goes_on in
    let few = c.turns.invariant.few in
    let rested = c.advance-rested.ensures.few in
    subst (λ (k : Setup). CanStep z k (c.turns.left - c.advance-rested.result.0) c.advance-rested.new.self) (sym c.args.hall.now.key)
    (can_after z key c.turns.left c.advance-rested.result.0 (c.turns.left - c.advance-rested.result.0) c.turns.self c.advance-rested.new.self (omega (arith, rested)) c.turns.invariant.can go)

pub turns-preserved : goal.turns-preserved
turns-preserved g c =
    let z = c.args.hall.now.table.shared.table_id in
    let key = c.args.hall.now.setup in
    let go = subst (λ (k : Setup). StepsBy c.args.hall.now.table.shared.table_id k c.advance-rested.result.0 c.turns.self c.advance-rested.new.self) c.args.hall.now.key c.advance-rested.ensures.goes_on in
    let few = c.turns.invariant.few in
    let rested = c.advance-rested.ensures.few in
    let ok = c.in-Ok.ensures.ok in
    let made = ok.1 in
    let one = subst (λ (k : Setup). StepsBy z k c.in-Ok.made c.advance-rested.new.self c.operate.new.self) c.args.hall.now.key ok.2 in
    let can = can_after z key c.turns.left c.advance-rested.result.0 (c.turns.left - c.advance-rested.result.0) c.turns.self c.advance-rested.new.self (omega (arith, rested)) c.turns.invariant.can go in
    record {
      few = omega (arith, few);
      can = can_after z key (c.turns.left - c.advance-rested.result.0) c.in-Ok.made _ c.advance-rested.new.self c.operate.new.self (omega (arith, made)) can one;
      goes_on = by_more z key (c.args.budget - (c.turns.left - c.advance-rested.result.0)) c.in-Ok.made _ c.args.self.now c.advance-rested.new.self c.operate.new.self (omega (arith, few, rested, made))
          (by_more z key (c.args.budget - c.turns.left) c.advance-rested.result.0 _ c.args.self.now c.turns.self c.advance-rested.new.self (omega (arith, few, rested)) c.turns.invariant.goes_on go) one;
    }

pub returns-in-Err-clause-goes_on : goal.returns-in-Err-clause-goes_on
returns-in-Err-clause-goes_on g c =
    let z = c.args.hall.now.table.shared.table_id in
    let key = c.args.hall.now.setup in
    let go = subst (λ (k : Setup). StepsBy c.args.hall.now.table.shared.table_id k c.advance-rested.result.0 c.turns.self c.advance-rested.new.self) c.args.hall.now.key c.advance-rested.ensures.goes_on in
    let few = c.turns.invariant.few in
    let rested = c.advance-rested.ensures.few in
    let none = subst (λ (k : Setup). StepsBy z k 0 c.advance-rested.new.self c.operate.new.self) c.args.hall.now.key c.in-Err.ensures.err in
    by_more z key (c.args.budget - (c.turns.left - c.advance-rested.result.0)) 0 _ c.args.self.now c.advance-rested.new.self c.operate.new.self (omega (arith, few, rested))
    (by_more z key (c.args.budget - c.turns.left) c.advance-rested.result.0 _ c.args.self.now c.turns.self c.advance-rested.new.self (omega (arith, few, rested)) c.turns.invariant.goes_on go) none

pub returns-clause-goes_on : goal.returns-clause-goes_on
returns-clause-goes_on g c =
    let over = c.turns-test.false in
    by_more c.args.hall.now.table.shared.table_id c.args.hall.now.setup (c.args.budget - c.turns.left) 0 c.args.budget c.args.self.now c.turns.self c.turns.self (omega (arith, over)) c.turns.invariant.goes_on (by_none c.args.hall.now.table.shared.table_id c.args.hall.now.setup c.turns.self)
