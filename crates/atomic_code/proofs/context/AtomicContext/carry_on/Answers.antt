use Rattle.std.proofs.Common.{◌≡◌, ◌+◌, ◌<◌, arith}
use Rattle.atomic_code.specs.inner.Making.{thread_of}
use Rattle.atomic_code.proofs.Carrying.{carried_by, comes_to, comes_to_all, left_stops, over_stops, refused, want_stops}
use Rattle.atomic_code.proofs.context.AtomicContext.carry_on.Goals as goal

pub returns-then-made-most : goal.returns-then-made-most
returns-then-made-most g c =
    let h = c.advance-made.ensures.carried _ _ _ c.turns.invariant.carried in
    comes_to_all c.args.code.now c.requires.valid _ (thread_of {A = g.row.A.Denot} c.args.self.now) _ c.args.most _ h c.if-made-most.true

pub step-requires-clause-running : goal.step-requires-clause-running
step-requires-clause-running g c = (c.advance-made.ensures.carried _ _ _ c.turns.invariant.carried).running

pub step-requires-clause-runs : goal.step-requires-clause-runs
step-requires-clause-runs g c = (c.advance-made.ensures.carried _ _ _ c.turns.invariant.carried).runs

pub returns-in-Err : goal.returns-in-Err
returns-in-Err g c =
    let h = c.advance-made.ensures.carried _ _ _ c.turns.invariant.carried in
    let lt : c.turns.made + c.advance-made.result < c.args.most = omega arith in
    refused c.args.code.now c.requires.valid _ (thread_of {A = g.row.A.Denot} c.args.self.now) _ _ c.args.most _ h lt c.in-Err.ensures.err

pub returns-then-not-runs : goal.returns-then-not-runs
returns-then-not-runs g c =
    let h = c.advance-made.ensures.carried _ _ _ c.turns.invariant.carried in
    let lt : c.turns.made + c.advance-made.result < c.args.most = omega arith in
    let x = rw c.in-Ok-Goes.field-0-is at c.in-Ok-Goes.ensures.ok in
    comes_to c.args.code.now c.requires.valid _ (thread_of {A = g.row.A.Denot} c.args.self.now) _ _ c.args.most _ _ h lt x
    (over_stops c.args.code.now c.requires.valid _ _ (λ e. let t = c.runs.ensures.1 e in absurd (cc)))

pub turns-preserved : goal.turns-preserved
turns-preserved g c =
    let h = c.advance-made.ensures.carried _ _ _ c.turns.invariant.carried in
    let x = rw c.in-Ok-Goes.field-0-is at c.in-Ok-Goes.ensures.ok in
    record {
      carried = carried_by c.args.code.now c.requires.valid _ (thread_of {A = g.row.A.Denot} c.args.self.now) _ _ _ h x (c.runs.ensures.0 c.if-not-runs.false);
      few = omega arith;
    }

pub returns-in-Ok-Leaves : goal.returns-in-Ok-Leaves
returns-in-Ok-Leaves g c =
    let h = c.advance-made.ensures.carried _ _ _ c.turns.invariant.carried in
    let lt : c.turns.made + c.advance-made.result < c.args.most = omega arith in
    let x = rw c.in-Ok-Leaves.field-0-is at c.in-Ok-Leaves.ensures.ok in
    comes_to c.args.code.now c.requires.valid _ (thread_of {A = g.row.A.Denot} c.args.self.now) _ _ c.args.most _ _ h lt x (left_stops c.args.code.now _ _)

pub returns-in-Ok-Wants : goal.returns-in-Ok-Wants
returns-in-Ok-Wants g c =
    let h = c.advance-made.ensures.carried _ _ _ c.turns.invariant.carried in
    let lt : c.turns.made + c.advance-made.result < c.args.most = omega arith in
    let x = rw c.in-Ok-Wants.field-0-is at c.in-Ok-Wants.ensures.ok in
    comes_to c.args.code.now c.requires.valid _ (thread_of {A = g.row.A.Denot} c.args.self.now) _ _ c.args.most _ _ h lt x (want_stops c.args.code.now _)

pub returns : goal.returns
returns g c = comes_to_all c.args.code.now c.requires.valid _ (thread_of {A = g.row.A.Denot} c.args.self.now) _ c.args.most _ c.turns.invariant.carried (let same : c.turns.made ≡ c.args.most = omega arith in same)
