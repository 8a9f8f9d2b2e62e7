use Rattle.std.proofs.Common.{◌∙◌, ◌++◌, ◌∷◌, [], ℕ, List, ap, sym, arith}
use Rattle.machine.specs.declared.event.Event.{Event}
use Rattle.replay.proofs.Playing.{loud_events, one_step, quiet_events}
use Rattle.world.proofs.Stepping.{one_access}
use Rattle.replay.proofs.play.step.Goals as goal

pub overflow_sub-made : goal.overflow_sub-made
overflow_sub-made g c = let e = one_step c.args.world.now c.step.new.self c.args.t c.accesses-accesses.result c.accesses-before.result c.in-Ok.ensures.ok c.accesses-before.ensures c.accesses-accesses.ensures in omega arith

pub overflow_cast-made : goal.overflow_cast-made
overflow_cast-made g c = let e = one_step c.args.world.now c.step.new.self c.args.t c.accesses-accesses.result c.accesses-before.result c.in-Ok.ensures.ok c.accesses-before.ensures c.accesses-accesses.ensures in let f = one_access c.args.world.now c.args.t in omega arith

pub returns-then-is_quiet-clause-cost : goal.returns-then-is_quiet-clause-cost
returns-then-is_quiet-clause-cost g c = let e = one_step c.args.world.now c.step.new.self c.args.t c.accesses-accesses.result c.accesses-before.result c.in-Ok.ensures.ok c.accesses-before.ensures c.accesses-accesses.ensures in omega arith

pub returns-in-Ok-push-clause-cost : goal.returns-in-Ok-push-clause-cost
returns-in-Ok-push-clause-cost g c = let e = one_step c.args.world.now c.step.new.self c.args.t c.accesses-accesses.result c.accesses-before.result c.in-Ok.ensures.ok c.accesses-before.ensures c.accesses-accesses.ensures in omega arith

pub returns-then-is_quiet-clause-events : goal.returns-then-is_quiet-clause-events
returns-then-is_quiet-clause-events g c = c.requires.events ∙ quiet_events c.args.world.now c.step.new.self c.args.t c.in-Ok.event c.in-Ok.ensures.ok c.in-Ok.ensures.event (sym c.is_quiet.ensures ∙ c.if-is_quiet.true)

pub returns-in-Ok-push-clause-events : goal.returns-in-Ok-push-clause-events
returns-in-Ok-push-clause-events g c =
    c.in-Ok-push.ensures.items ∙ ap (λ (l : List (ℕ × ℕ × Event)). l ++ (c.accesses-accesses.result, c.args.t, c.in-Ok.event) ∷ []) c.requires.events
    ∙ loud_events c.args.world.now c.step.new.self c.args.t c.accesses-accesses.result c.in-Ok.event c.in-Ok.ensures.ok c.in-Ok.ensures.event (sym c.is_quiet.ensures ∙ c.if-is_quiet.false) c.accesses-accesses.ensures
