use Rattle.std.proofs.Common.{refl, ap, Some}
use Rattle.std.specs.Prelude.{option_map}
use Rattle.atomic_code.proofs.Answering.{begins_inside}
use Rattle.atomic_code.specs.inner.Making.{thread_of, transaction_of}
use Rattle.atomic_code.proofs.context.AtomicContext.begin.Goals as goal

pub returns-in_ok-open_inner-in-Some-clause-ok : goal.returns-in_ok-open_inner-in-Some-clause-ok
returns-in_ok-open_inner-in-Some-clause-ok g c =
    let k = thread_of {A = g.row.A.Denot} c.args.self.now in
    let there = ap (option_map (transaction_of {A = g.row.A.Denot})) c.in-Some.is in
    begins_inside c.args.code.now c.requires.valid k c.requires.running c.requires.runs _ (transaction_of c.in-Some.outer) there _ _ _ c.requires.begins c.go_on.ensures.configuration (ap Some c.in_ok-open_inner-in-Some.ensures.ok) refl refl
