use Rattle.std.proofs.Common.{refl, ap}
use Rattle.std.specs.Prelude.{option_map}
use Rattle.atomic_code.proofs.Answering.{irrevocable_inside, irrevocable_outside}
use Rattle.atomic_code.specs.inner.Making.{thread_of, transaction_of}
use Rattle.atomic_code.proofs.context.AtomicContext.make_irrevocable.Goals as goal

pub returns-in-Some : goal.returns-in-Some
returns-in-Some g c =
    let k = thread_of {A = g.row.A.Denot} c.args.self.now in
    let there = ap (option_map (transaction_of {A = g.row.A.Denot})) c.in-Some.is in
    λ m. irrevocable_inside c.args.code.now c.requires.valid k c.requires.running c.requires.runs m (transaction_of c.in-Some.open) there _ _ c.requires.told c.go_on.ensures.configuration refl refl refl

pub returns-in-None : goal.returns-in-None
returns-in-None g c =
    let k = thread_of {A = g.row.A.Denot} c.args.self.now in
    let none = ap (option_map (transaction_of {A = g.row.A.Denot})) c.in-None.is in
    λ m. irrevocable_outside c.args.code.now c.requires.valid k c.requires.running c.requires.runs m none _ _ c.requires.told c.go_on.ensures.configuration none refl refl
