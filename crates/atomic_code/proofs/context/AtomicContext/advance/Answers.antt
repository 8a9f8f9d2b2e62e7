use Rattle.std.proofs.Common.{refl}
use Rattle.atomic_code.specs.inner.Making.{thread_of}
use Rattle.atomic_code.proofs.Carrying.{carried_locally}
use Rattle.atomic_code.proofs.context.AtomicContext.advance.Goals as goal

pub returns-clause-carried : goal.returns-clause-carried
returns-clause-carried g c = λ m k made h. carried_locally c.args.code.now c.requires.valid m k (thread_of {A = g.row.A.Denot} c.args.self.now) _ made _ h c.advance-made.ensures.leads refl refl refl
