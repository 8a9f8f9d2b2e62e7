use Rattle.std.proofs.Common.{refl}
use Rattle.atomic_code.proofs.Answering.{goes_pure}
use Rattle.atomic_code.specs.inner.Making.{thread_of}
use Rattle.atomic_code.proofs.context.AtomicContext.work.Goals as goal

pub returns : goal.returns
returns g c = λ m. goes_pure c.args.code.now c.requires.valid (thread_of {A = g.row.A.Denot} c.args.self.now) c.requires.running c.requires.runs m _ c.step.ensures refl refl refl
