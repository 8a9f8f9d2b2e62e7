use Rattle.std.proofs.Common.{ap, refl}
use Rattle.syntax.specs.Actions.{Stops}
use Rattle.meaning.specs.Outcomes.{memories_in}
use Rattle.meaning.specs.inner.SourceThread.{context_in, halt_of, state_in}
use Rattle.meaning.proofs.Outcomes.{happened}
use Rattle.meaning.proofs.standing.stop_thread.Goals as goal

pub returns-in-Outside : goal.returns-in-Outside
returns-in-Outside g c = λ source. (
  happened c.args.m.why c.in-Some.why c.in-Some.is,
  (state_in c.args.m, memories_in c.in-Outside.field-0.now, ap (λ o. Stops (halt_of o) (state_in c.args.m)) c.in-Some.is, ap context_in c.in-Outside.is, refl),
)
