use Rattle.std.proofs.Common.{subst}
use Rattle.norec_core.specs.declared.step.Phase.{Phase}
use Rattle.norec_core.specs.inner.Runs.{IsStanding, Run}
use Rattle.norec_core.proofs.steps.CoreSteps.take_store.Goals as goal

pub told_store-requires-clause-lock : goal.told_store-requires-clause-lock
told_store-requires-clause-lock g c = subst (λ (q : Phase). IsStanding q c.args.self.now.attempt.kept c.args.self.now.attempt.snapshot) c.requires.phase (subst (λ (r : Run). IsStanding r.attempt.phase r.attempt.kept r.attempt.snapshot) c.self.view_is c.self.invariant.1)
