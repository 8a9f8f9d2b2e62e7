use Rattle.std.proofs.Common.{◌≡◌, refl, sym, subst, rules}
use Rattle.bytecode.specs.Effects.{Effect}
use Rattle.bytecode.specs.Code.{effect}
use Rattle.atomic_code.specs.inner.Making.{Cancels}
use Rattle.atomic_code.proofs.context.AtomicContext.step.Goals as goal

pub returns-in-Local-clause-ok : goal.returns-in-Local-clause-ok
returns-in-Local-clause-ok g c = c.work.ensures _

pub returns-in-Return-clause-ok : goal.returns-in-Return-clause-ok
returns-in-Return-clause-ok g c = c.give_back.ensures _

pub returns-in-Read-clause-ok : goal.returns-in-Read-clause-ok
returns-in-Read-clause-ok g c = c.read.ensures _

pub returns-in-Write-clause-ok : goal.returns-in-Write-clause-ok
returns-in-Write-clause-ok g c = c.write.ensures _

pub returns-in-Commit-clause-ok : goal.returns-in-Commit-clause-ok
returns-in-Commit-clause-ok g c = c.commit.ensures _

pub cancel-requires-clause-cancels : goal.cancel-requires-clause-cancels
cancel-requires-clause-cancels g c =
    let tells : effect c.args.code.now c.args.self.now.frames.configuration ≡ Effect.Cancel = search rules in
    subst (λ x. Cancels x 1) (sym tells) refl

pub returns-in-Cancel-clause-ok : goal.returns-in-Cancel-clause-ok
returns-in-Cancel-clause-ok g c = c.cancel.ensures _

pub returns-in-CancelOuter-clause-ok : goal.returns-in-CancelOuter-clause-ok
returns-in-CancelOuter-clause-ok g c = c.cancel-in-CancelOuter.ensures _

pub returns-in-Irrevocable-clause-ok : goal.returns-in-Irrevocable-clause-ok
returns-in-Irrevocable-clause-ok g c = c.make_irrevocable.ensures _

pub returns-in-Traps-clause-ok : goal.returns-in-Traps-clause-ok
returns-in-Traps-clause-ok g c = c.trap.ensures _

pub returns-in-End-clause-ok : goal.returns-in-End-clause-ok
returns-in-End-clause-ok g c = c.end.ensures _
