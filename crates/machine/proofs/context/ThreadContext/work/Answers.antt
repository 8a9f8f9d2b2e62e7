use Rattle.std.proofs.Common.{◌≡◌, ◌∙◌, true, None, refl, subst, rules}
use Rattle.std.specs.Prelude.{is_some}
use Rattle.frames.specs.Doings.{IsDoingAt}
use Rattle.frames.proofs.Keeping.{begins_stay_open}
use Rattle.machine.proofs.contexts.Calls.{traps_asked, irrevocable_asked}
use Rattle.machine.proofs.contexts.Work.{work_moves, work_traps_inside, work_irrevocable_outside, work_end_inside}
use Rattle.machine.specs.inner.Contexts.{context_of, op_asked}
use Rattle.machine.proofs.context.ThreadContext.work.Goals as goal

pub returns-then-inside : goal.returns-then-inside
returns-then-inside g c =
    let k = context_of {A = g.row.A.Denot} c.args.self.now in
    let some : is_some k.core.attempt ≡ true = c.has_attempt-inside.ensures.0 c.if-inside.true in
    let asked = traps_asked k.core.attempt k.trapping c.in-Traps.cause (subst (λ x. op_asked x k.core.attempt k.trapping ≡ None) c.in-Traps.is c.requires.asked) some in
    λ answer. work_traps_inside c.args.code.now (begins_stay_open c.args.code.now c.requires.valid) k answer c.requires.running c.requires.runs _ c.in-Traps.cause (subst (IsDoingAt c.args.code.now k.configuration) c.in-Traps.is c.requires.tells) asked.0 asked.1 refl refl refl refl refl

pub returns-in-Local : goal.returns-in-Local
returns-in-Local g c =
    let k = context_of {A = g.row.A.Denot} c.args.self.now in
    λ answer. work_moves c.args.code.now (begins_stay_open c.args.code.now c.requires.valid) k answer c.requires.running c.requires.runs _ c.step.ensures refl refl refl refl

pub returns-in-Call : goal.returns-in-Call
returns-in-Call g c =
    let k = context_of {A = g.row.A.Denot} c.args.self.now in
    λ answer. work_moves c.args.code.now (begins_stay_open c.args.code.now c.requires.valid) k answer c.requires.running c.requires.runs _ c.call.ensures refl refl refl refl

pub returns-in-Return : goal.returns-in-Return
returns-in-Return g c =
    let k = context_of {A = g.row.A.Denot} c.args.self.now in
    let tells = subst (IsDoingAt c.args.code.now k.configuration) c.in-Return.is c.requires.tells in
    λ answer. work_moves c.args.code.now (begins_stay_open c.args.code.now c.requires.valid) k answer c.requires.running c.requires.runs _ (tells.0 ∙ c.give_back.ensures) refl refl refl refl

pub returns-in-Irrevocable : goal.returns-in-Irrevocable
returns-in-Irrevocable g c =
    let k = context_of {A = g.row.A.Denot} c.args.self.now in
    let none = irrevocable_asked k.core.attempt k.trapping (subst (λ x. op_asked x k.core.attempt k.trapping ≡ None) c.in-Irrevocable.is c.requires.asked) in
    λ answer. work_irrevocable_outside c.args.code.now (begins_stay_open c.args.code.now c.requires.valid) k answer c.requires.running c.requires.runs none _ _ (subst (IsDoingAt c.args.code.now k.configuration) c.in-Irrevocable.is c.requires.tells) c.go_on.ensures.configuration refl refl refl refl

pub returns-else-not-inside : goal.returns-else-not-inside
returns-else-not-inside g c =
    let k = context_of {A = g.row.A.Denot} c.args.self.now in
    let some : is_some k.core.attempt ≡ true = search rules in
    λ answer. work_end_inside c.args.code.now (begins_stay_open c.args.code.now c.requires.valid) k answer c.requires.running c.requires.runs _ (subst (IsDoingAt c.args.code.now k.configuration) c.in-End.is c.requires.tells) some refl
