use Rattle.std.proofs.Common.{◌≡◌, Ok, Err, Result, refl, sym, ◌∙◌}
use Rattle.std.specs.Prelude.{OnOk}
use Rattle.norec_core.specs.declared.step.Access.{Access}
use Rattle.norec_core.specs.declared.step.Stop.{Stop}
use Rattle.nesting.specs.Begins.{Saved}
use Rattle.frames.specs.Open.{saved_in}
use Rattle.machine.proofs.contexts.Calls.{ok_access, used_up_at, saved_same, ready_operation, access_operation}
use Rattle.machine.proofs.contexts.Wanting.{operation_wants}
use Rattle.machine.specs.inner.Contexts.{context_of, ready}
use Rattle.machine.proofs.context.ThreadContext.prepare.Goals as goal

on_ok : (r : Result Access Stop) (s t u : Saved) → t ≡ u → OnOk r (s ≡ t) → OnOk r (s ≡ u)
on_ok (Ok x) s t u e h = h ∙ e
on_ok (Err x) s t u e h = tt

pub returns-in-Some-clause-access : goal.returns-in-Some-clause-access
returns-in-Some-clause-access g c =
    let k = context_of {A = g.row.A.Denot} c.args.self.now in
    ok_access c.prepare.result _ _ (access_operation c.args.code.now k c.requires.running c.args.doing c.in-Some.op c.requires.tells (sym c.in-Some.ensures)) c.prepare.ensures.access c.prepare.ensures.used_up

pub returns-in-Some-clause-ready : goal.returns-in-Some-clause-ready
returns-in-Some-clause-ready g c =
    let k = context_of {A = g.row.A.Denot} c.args.self.now in
    let same = saved_same k.configuration c.registers.result.now c.frames.result c.place.result c.registers.ensures c.frames.ensures c.place.ensures in
    ready_operation c.args.code.now k c.requires.running c.prepare.result c.in-Some.op c.args.doing c.prepare.new.self _ c.requires.tells (sym c.in-Some.ensures) refl refl c.prepare.ensures.asked
    (λ e. on_ok c.prepare.result c.prepare.new.self.saved _ (saved_in k.configuration) same (c.prepare.ensures.saved e))

pub returns-in-Some-clause-used_up : goal.returns-in-Some-clause-used_up
returns-in-Some-clause-used_up g c =
    let k = context_of {A = g.row.A.Denot} c.args.self.now in
    used_up_at c.prepare.result _ _ (access_operation c.args.code.now k c.requires.running c.args.doing c.in-Some.op c.requires.tells (sym c.in-Some.ensures)) c.prepare.ensures.used_up

pub returns-in-Some-clause-full : goal.returns-in-Some-clause-full
returns-in-Some-clause-full g c = λ e.
    let k = context_of {A = g.row.A.Denot} c.args.self.now in
    operation_wants c.args.code.now k.configuration (ready {A = g.row.A.Denot} c.args.self.now) k.core.attempt k.trapping c.args.doing c.in-Some.op c.requires.tells (sym c.in-Some.ensures) (c.prepare.ensures.full e)
