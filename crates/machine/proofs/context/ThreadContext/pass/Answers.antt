use Rattle.std.proofs.Common.{Option, subst}
use Rattle.std.specs.Prelude.{IsSomeAnd}
use Rattle.nesting.specs.Begins.{Saved}
use Rattle.frames.proofs.Keeping.{begins_stay_open}
use Rattle.norec_core.specs.Attempts.{Attempt}
use Rattle.norec_core.specs.Cores.{CommitsLocally}
use Rattle.machine.proofs.contexts.Advancing.{passed}
use Rattle.machine.specs.inner.Contexts.{context_of}
use Rattle.machine.proofs.context.ThreadContext.pass.Goals as goal

pub returns-in_default-clause-advances : goal.returns-in_default-clause-advances
returns-in_default-clause-advances g c =
    let k = context_of {A = g.row.A.Denot} c.args.self.now in
    passed c.args.code.now (begins_stay_open c.args.code.now c.requires.valid) k c.change_frames.new.frames.configuration c.change_frames.result c.requires.running c.requires.runs c.change_frames.ensures.passed c.change_frames.ensures.still

pub returns-in-Commit-clause-commits : goal.returns-in-Commit-clause-commits
returns-in-Commit-clause-commits g c = λ made is local.
    c.commit.ensures.locally made (subst (λ (o : Option (Attempt Saved)). IsSomeAnd o (λ a. CommitsLocally a)) (c.commit.ensures.not_done made) local)
