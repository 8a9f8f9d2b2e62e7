use Rattle.std.proofs.Common.{refl, ◌∙◌, ap, sym}
use Rattle.bytecode.specs.Code.{effect}
use Rattle.atomic_code.proofs.Answering.{goes_pure}
use Rattle.atomic_code.specs.inner.Making.{thread_of}
use Rattle.atomic_code.proofs.context.AtomicContext.call.Goals as goal

pub returns-clause-ok : goal.returns-clause-ok
returns-clause-ok g c = λ m. goes_pure c.args.code.now c.requires.valid (thread_of {A = g.row.A.Denot} c.args.self.now) c.requires.running c.requires.runs m _ (ap (effect c.args.code.now) (sym c.prepare_call.ensures.configuration) ∙ c.call.ensures) refl refl refl
