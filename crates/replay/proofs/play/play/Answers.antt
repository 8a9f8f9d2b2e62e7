use Rattle.std.proofs.Common.{◌∙◌, ◌-◌, ℕ, inl, inr, ap, sym, subst, arith}
use Rattle.std.specs.Prelude.{if◌then◌else◌}
use Rattle.world.specs.Simulations.{Simulation, world_of}
use Rattle.replay.specs.inner.Playing.{Going}
use Rattle.replay.proofs.Playing.{at_zero, goes, goes_first, goes_halt, goes_out, halted, no_stranger, not_zero, over}
use Rattle.replay.proofs.play.play.Goals as goal

pub steps-init : goal.steps-init
steps-init g c = record {
  going = goes_first c.args.line c.args.room c.args.world.now;
  events = c.requires.events;
  threads = c.threads-threads.ensures.threads;
  explained = c.threads-threads.ensures.explained;
}

pub returns-then-count-eq0-clause-plays : goal.returns-then-count-eq0-clause-plays
returns-then-count-eq0-clause-plays g c = goes_out c.args.line c.args.room c.steps.count c.steps.left c.args.world.now c.steps.world c.steps.invariant.going (inr (at_zero (world_of c.steps.world) (record c.args.line { count = c.steps.count }) c.if-count-eq0.true))

pub returns-then-line-threads-clause-halt : goal.returns-then-line-threads-clause-halt
returns-then-line-threads-clause-halt g c = (
  goes_halt c.args.line c.args.room c.steps.count c.steps.left (c.steps.left - 1) c.args.world.now c.steps.world c.steps.invariant.going (not_zero (world_of c.steps.world) (record c.args.line { count = c.steps.count }) (let f = c.if-count-eq0.false in omega arith) (no_stranger c.steps.world (record c.args.line { count = c.steps.count }) c.steps.invariant.explained (let e = c.if-line-threads.true in let f = c.steps.invariant.threads in omega arith))) (let f = c.steps-test.true in omega arith),
  (let e = c.if-line-threads.true in let f = c.steps.invariant.threads in omega arith),
  c.steps.invariant.events,
)

pub returns-then-is_cut_off-clause-plays : goal.returns-then-is_cut_off-clause-plays
returns-then-is_cut_off-clause-plays g c = goes_out c.args.line c.args.room c.steps.count c.steps.left c.args.world.now c.steps.world c.steps.invariant.going (inr (over (world_of c.steps.world) (record c.args.line { count = c.steps.count }) (sym c.is_cut_off.ensures ∙ c.if-is_cut_off.true)))

pub returns-in-Err-clause-halt : goal.returns-in-Err-clause-halt
returns-in-Err-clause-halt g c =
    halted c.args.line c.args.room c.in-Err.halt c.args.world.now c.steps.world c.step.new.world c.step.new.events.items (goes_halt c.args.line c.args.room c.steps.count c.steps.left (c.steps.left - 1) c.args.world.now c.steps.world c.steps.invariant.going (not_zero (world_of c.steps.world) (record c.args.line { count = c.steps.count }) (let f = c.if-count-eq0.false in omega arith) (sym c.is_cut_off.ensures ∙ c.if-is_cut_off.false)) (let f = c.steps-test.true in omega arith)) c.in-Err.ensures.halt

pub steps-preserved : goal.steps-preserved
steps-preserved g c = record {
  going = subst (λ n. Going c.args.line c.args.room (c.steps.count - n) (c.steps.left - 1) c.args.world.now c.step.new.world) (sym (c.spent_count-count.ensures ∙ ap (λ (m : ℕ). if c.args.line.accesses then m else 1) c.in-Ok.ensures.cost))
      (goes c.args.line c.args.room c.steps.count c.steps.left (c.steps.left - 1) c.args.world.now c.steps.world c.step.new.world c.steps.invariant.going (not_zero (world_of c.steps.world) (record c.args.line { count = c.steps.count }) (let f = c.if-count-eq0.false in omega arith) (sym c.is_cut_off.ensures ∙ c.if-is_cut_off.false)) (let f = c.steps-test.true in omega arith) c.in-Ok.ensures.ok);
  events = c.in-Ok.ensures.events;
  threads = c.steps.invariant.threads ∙ ap (λ (v : Simulation). v.threads) (sym c.in-Ok.ensures.ok);
  explained = c.step.ensures.explained;
}

pub returns-clause-plays : goal.returns-clause-plays
returns-clause-plays g c = goes_out c.args.line c.args.room c.steps.count c.steps.left c.args.world.now c.steps.world c.steps.invariant.going (inl (let f = c.steps-test.false in omega arith))
