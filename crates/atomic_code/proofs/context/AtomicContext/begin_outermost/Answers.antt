use Rattle.std.proofs.Common.{refl, ap, subst, Some}
use Rattle.bytecode.specs.Valid.{bounds_of}
use Rattle.atomic_code.specs.inner.Making.{HasMemoryAtHand}
use Rattle.atomic_code.proofs.Answering.{begins_outside, at_some}
use Rattle.atomic_code.specs.inner.Making.{thread_of}
use Rattle.atomic_code.proofs.context.AtomicContext.begin_outermost.Goals as goal

pub returns-in_ok-outermost-in-Some-clause-ok : goal.returns-in_ok-outermost-in-Some-clause-ok
returns-in_ok-outermost-in-Some-clause-ok g c =
    let k = thread_of {A = g.row.A.Denot} c.args.self.now in
    let there = at_some (λ m. m.now) _ _ c.in-Some.is in
    begins_outside c.args.code.now c.requires.valid k c.requires.running c.requires.runs _ c.requires.outside _ _ _ _ c.requires.begins there (subst (HasMemoryAtHand (bounds_of c.args.code.now)) there c.requires.found) c.go_on.ensures.configuration (ap Some c.in_ok-outermost-in-Some.ensures) refl refl
