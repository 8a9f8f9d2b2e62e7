use Rattle.std.proofs.Common.{◌≡◌, true, false, refl, rules}
use Rattle.std.specs.Prelude.{is_some}
use Rattle.norec_core.specs.Cores.{is_kept}
use Rattle.frames.proofs.Keeping.{begins_stay_open}
use Rattle.machine.proofs.contexts.Work.{work_waits, work_prints}
use Rattle.machine.specs.inner.Contexts.{context_of}
use Rattle.machine.proofs.context.ThreadContext.work_print.Goals as goal
use Rattle.machine.proofs.context.ThreadContext.work_print.Goals.{else-has_attempt-via-then-has_attempt+else-not-is_kept, else-has_attempt-via-else-has_attempt}

pub returns-then-not-is_kept : goal.returns-then-not-is_kept
returns-then-not-is_kept g c =
    let k = context_of {A = g.row.A.Denot} c.args.self.now in
    let some : is_some k.core.attempt ≡ true = c.has_attempt.ensures.0 c.if-has_attempt.true in
    let free : is_kept k.core.attempt ≡ false = search rules in
    λ answer. work_waits c.args.code.now (begins_stay_open c.args.code.now c.requires.valid) k answer c.requires.running c.requires.runs _ _ _ c.requires.prints some free refl

pub returns : goal.returns
returns g c =
    let k = context_of {A = g.row.A.Denot} c.args.self.now in
    let may : is_some k.core.attempt ≡ true → is_kept k.core.attempt ≡ true = elim c.else-has_attempt.branch [
      | else-has_attempt-via-then-has_attempt+else-not-is_kept w ↦ λ e. search rules
      | else-has_attempt-via-else-has_attempt w ↦ λ e. let t = c.has_attempt.ensures.1 e in absurd (cc)
    ] in
    λ answer. work_prints c.args.code.now (begins_stay_open c.args.code.now c.requires.valid) k answer c.requires.running c.requires.runs _ _ _ c.requires.prints may c.print.ensures.configuration refl refl c.print.ensures.text refl
