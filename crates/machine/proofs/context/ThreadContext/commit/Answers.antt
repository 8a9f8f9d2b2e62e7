use Rattle.std.proofs.Common.{refl}
use Rattle.bytecode.specs.Effects.Effect.{Commit}
use Rattle.bytecode.specs.Code.{onward}
use Rattle.frames.specs.declared.doing.Doing.TheVariants as doing
use Rattle.frames.proofs.Keeping.{begins_stay_open}
use Rattle.norec_core.specs.declared.step.Op.TheVariants as op
use Rattle.norec_core.specs.declared.step.OpOutcome.TheVariants as outcome
use Rattle.machine.proofs.contexts.Advancing.{advances, advances_once, once_asked}
use Rattle.machine.specs.inner.Contexts.{context_of}
use Rattle.machine.proofs.context.ThreadContext.commit.Goals as goal

pub returns-then-not-commit-clause-advances : goal.returns-then-not-commit-clause-advances
returns-then-not-commit-clause-advances g c =
    let k = context_of {A = g.row.A.Denot} c.args.self.now in
    advances c.args.code.now (begins_stay_open c.args.code.now c.requires.valid) k (record k { core = c.commit.new.self }) 0 c.requires.running c.requires.runs refl (c.commit.ensures.not_done c.if-not-commit.true) refl refl refl

pub returns-clause-advances : goal.returns-clause-advances
returns-clause-advances g c =
    let k = context_of {A = g.row.A.Denot} c.args.self.now in
    let once = c.commit.ensures.done c.if-not-commit.false in
    advances_once c.args.code.now (begins_stay_open c.args.code.now c.requires.valid) k _ op.Commit outcome.Done doing.Commit (Commit (onward k.configuration)) c.requires.running c.requires.runs c.requires.tells
    (once_asked doing.Commit op.Commit outcome.Done k.core.saved k.core.attempt k.trapping (λ b. refl) refl (λ e. cc) once.outcome) (λ e. cc) once c.requires.tells c.go_on.ensures.configuration refl refl refl
