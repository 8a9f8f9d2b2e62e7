use Rattle.std.proofs.Common.{refl, ap, sym, ◌∙◌, Some}
use Rattle.std.specs.Prelude.{option_map}
use Rattle.nesting.specs.Begins.{Saved}
use Rattle.bytecode.specs.Sequential.{OpenTransaction}
use Rattle.atomic_code.proofs.Answering.{commit_inner, commit_outermost}
use Rattle.atomic_code.specs.inner.Making.{thread_of, transaction_of}
use Rattle.atomic_code.proofs.context.AtomicContext.commit.Goals as goal

pub returns-in-Some-close_inner : goal.returns-in-Some-close_inner
returns-in-Some-close_inner g c =
    let k = thread_of {A = g.row.A.Denot} c.args.self.now in
    let there = ap (option_map (transaction_of {A = g.row.A.Denot})) (sym c.take.ensures.value ∙ c.in-Some.is) ∙ ap Some c.in-Some-close_inner.ensures.some in
    λ m. commit_inner c.args.code.now c.requires.valid k c.requires.running c.requires.runs m (transaction_of c.close_inner.new.transaction) _ there _ _ c.requires.commits c.go_on.ensures.configuration refl refl refl

pub returns-in-None-close_inner : goal.returns-in-None-close_inner
returns-in-None-close_inner g c =
    let k = thread_of {A = g.row.A.Denot} c.args.self.now in
    let e = c.in-None-close_inner.ensures in
    let there = ap (option_map (transaction_of {A = g.row.A.Denot})) (sym c.take.ensures.value ∙ c.in-Some.is) ∙ ap Some (sym e.same) in
    λ m. commit_outermost c.args.code.now c.requires.valid k c.requires.running c.requires.runs m (transaction_of c.close_inner.new.transaction) there (ap (λ (t : OpenTransaction Saved). t.inner) e.same ∙ e.none) _ _ _ c.requires.commits refl c.go_on.ensures.configuration (ap (option_map (transaction_of {A = g.row.A.Denot})) c.take.ensures.after) refl refl
