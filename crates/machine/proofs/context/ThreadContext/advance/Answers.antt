use Rattle.std.proofs.Common.{◌≡◌, ◌+◌, ◌-◌, Option, sym, subst, arith}
use Rattle.std.specs.Prelude.{IfNone, if◌then◌else◌, slice_get}
use Rattle.bytecode.specs.Code.{Configuration, effect}
use Rattle.local_steps.specs.declared.step.Pause.{Pause}
use Rattle.local_steps.proofs.Known.{found}
use Rattle.local_steps.specs.Local.{MayEnd}
use Rattle.frames.specs.Doings.{IsPauseAt}
use Rattle.frames.specs.Open.{MayStand}
use Rattle.frames.proofs.Keeping.{begins_stay_open}
use Rattle.machine.specs.Loads.{Counted}
use Rattle.machine.specs.Standing.{begins_of}
use Rattle.machine.specs.inner.Contexts.{Advances, ContextWith, context_of, machine_thread}
use Rattle.machine.proofs.contexts.Inside.{advances_to}
use Rattle.machine.proofs.contexts.Left.{left_told}
use Rattle.machine.proofs.contexts.Seen.{within}
use Rattle.machine.proofs.context.ThreadContext.advance.Goals as goal

pub passes-init : goal.passes-init
passes-init g c =
    let start : Counted = record { thread = machine_thread (context_of {A = g.row.A.Denot} c.args.self.now); accesses = c.args.accesses.now } in
    let none : 0 ≡ c.args.most - c.args.most = omega arith in
    record {
      leads = subst (λ n. g.L.Loads.leads c.args.code.now c.args.loads.now start n c.args.loads.now start) none (c.stays.ensures c.args.code.now start);
      running = c.requires.running;
      runs = c.requires.runs;
      within = within c.args.code.now (begins_stay_open c.args.code.now c.requires.valid) _ _ c.requires.runs.stands;
      count = omega arith;
    }

pub advance_frames-steps-requires-clause-can : goal.advance_frames-steps-requires-clause-can
advance_frames-steps-requires-clause-can g c = record {
  s = c.args.loads.now;
  start = record { thread = machine_thread (context_of {A = g.row.A.Denot} c.args.self.now); accesses = c.args.accesses.now };
  before = c.args.most - c.passes.left;
  led = c.passes.invariant.leads;
  all = c.args.most;
  can = c.requires.can;
  few = (let few = c.passes.invariant.count in omega (arith, few));
}

pub returns-in_default-clause-leads : goal.returns-in_default-clause-leads
returns-in_default-clause-leads g c =
    let start : Counted = record { thread = machine_thread (context_of {A = g.row.A.Denot} c.args.self.now); accesses = c.args.accesses.now } in
    let all = subst (λ (d : Option Pause). IfNone d (c.advance_frames-steps.result.0 ≡ c.passes.left)) c.in_default.is c.advance_frames-steps.ensures.all in
    let few = c.passes.invariant.count in
    let made : c.args.most - c.passes.left + c.advance_frames-steps.result.0 ≡ c.args.most = omega (arith, all, few) in
    subst (λ n. g.L.Loads.leads c.args.code.now c.args.loads.now start n c.advance_frames-steps.new.loads (record { thread = machine_thread (context_of {A = g.row.A.Denot} c.advance_frames-steps.new.self); accesses = c.advance_frames-steps.new.accesses })) made
    (c.advance_frames-steps.ensures.leads c.args.loads.now start (c.args.most - c.passes.left) c.passes.invariant.leads)

pub returns-then-not-pass-clause-leads : goal.returns-then-not-pass-clause-leads
returns-then-not-pass-clause-leads g c =
    let start : Counted = record { thread = machine_thread (context_of {A = g.row.A.Denot} c.args.self.now); accesses = c.args.accesses.now } in
    let m = context_of {A = g.row.A.Denot} c.advance_frames-steps.new.self in
    let p = context_of {A = g.row.A.Denot} c.pass.new.self in
    let none : Advances c.args.code.now m 0 p = subst (λ b. Advances c.args.code.now m (if b then 1 else 0) p) c.if-not-pass.true c.pass.ensures.advances in
    let few = c.passes.invariant.count in
    let steps = c.advance_frames-steps.ensures.count in
    let made : c.args.most - c.passes.left + c.advance_frames-steps.result.0 + 0 ≡ c.args.most - (c.passes.left - c.advance_frames-steps.result.0) = omega (arith, few, steps) in
    subst (λ n. g.L.Loads.leads c.args.code.now c.args.loads.now start n c.advance_frames-steps.new.loads (record { thread = machine_thread p; accesses = c.advance_frames-steps.new.accesses })) made
    (advances_to g.L.Loads.leads c.args.code.now c.advance_frames-steps.new.loads (c.goes_on.ensures c.args.code.now) m p c.advance_frames-steps.new.accesses 0 c.requires.valid none
    c.args.loads.now start (c.args.most - c.passes.left + c.advance_frames-steps.result.0) (c.advance_frames-steps.ensures.leads c.args.loads.now start (c.args.most - c.passes.left) c.passes.invariant.leads))

pub passes-preserved : goal.passes-preserved
passes-preserved g c =
    let start : Counted = record { thread = machine_thread (context_of {A = g.row.A.Denot} c.args.self.now); accesses = c.args.accesses.now } in
    let m = context_of {A = g.row.A.Denot} c.advance_frames-steps.new.self in
    let p = context_of {A = g.row.A.Denot} c.pass.new.self in
    let one : Advances c.args.code.now m 1 p = subst (λ b. Advances c.args.code.now m (if b then 1 else 0) p) c.if-not-pass.false c.pass.ensures.advances in
    let few = c.passes.invariant.count in
    let fewer = (found _ c.advance_frames-steps.result.1 c.in-Some.pause c.in-Some.is c.advance_frames-steps.ensures.pauses).0 in
    let made : c.args.most - c.passes.left + c.advance_frames-steps.result.0 + 1 ≡ c.args.most - (c.passes.left - c.advance_frames-steps.result.0 - 1) = omega (arith, few, fewer) in
    record {
      leads = subst (λ n. g.L.Loads.leads c.args.code.now c.args.loads.now start n c.advance_frames-steps.new.loads (record { thread = machine_thread p; accesses = c.advance_frames-steps.new.accesses })) made
          (advances_to g.L.Loads.leads c.args.code.now c.advance_frames-steps.new.loads (c.goes_on.ensures c.args.code.now) m p c.advance_frames-steps.new.accesses 1 c.requires.valid one
          c.args.loads.now start (c.args.most - c.passes.left + c.advance_frames-steps.result.0) (c.advance_frames-steps.ensures.leads c.args.loads.now start (c.args.most - c.passes.left) c.passes.invariant.leads));
      running = c.pass.ensures.running;
      runs = subst (ContextWith c.args.code.now p) c.pass.ensures.running one.of;
      within = one.within;
      count = omega (arith, few);
    }

pub doing_at_pause-requires-clause-of : goal.doing_at_pause-requires-clause-of
doing_at_pause-requires-clause-of g c =
    let still = c.pass.ensures.still c.if-not-pass.true in
    (begins_of c.advance_frames-steps.new.self.core.attempt, subst (λ (x : Configuration). MayStand c.args.code.now x (begins_of c.advance_frames-steps.new.self.core.attempt)) (sym still) c.advance_frames-steps.ensures.runs.stands)

pub doing_at_pause-requires-clause-pauses : goal.doing_at_pause-requires-clause-pauses
doing_at_pause-requires-clause-pauses g c =
    let still = c.pass.ensures.still c.if-not-pass.true in
    subst (λ (x : Configuration). IsPauseAt c.args.code.now x c.in-Some.pause) (sym still) (found _ c.advance_frames-steps.result.1 c.in-Some.pause c.in-Some.is c.advance_frames-steps.ensures.pauses).1

pub returns-then-not-pass-clause-left : goal.returns-then-not-pass-clause-left
returns-then-not-pass-clause-left g c =
    let still = c.pass.ensures.still c.if-not-pass.true in
    let fewer = (found _ c.advance_frames-steps.result.1 c.in-Some.pause c.in-Some.is c.advance_frames-steps.ensures.pauses).0 in
    let ends = subst (λ (x : Configuration). MayEnd (slice_get c.args.code.now.instructions x.place) (effect c.args.code.now x)) (sym still) (c.advance_frames-steps.ensures.ends fewer) in
    left_told c.args.code.now c.pass.new.self.frames.configuration c.pass.new.self.core.attempt c.doing_at_pause.result c.in-Some.pause c.doing_at_pause.ensures.tells c.doing_at_pause.ensures.told ends
    (c.pass.ensures.commits c.if-not-pass.true) (λ w. c.pass.ensures.returns w c.if-not-pass.true)
