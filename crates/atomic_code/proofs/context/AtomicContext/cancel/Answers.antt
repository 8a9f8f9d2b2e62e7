use Rattle.std.proofs.Common.{◌-◌, refl, ap, sym, ◌∙◌, Some, drop}
use Rattle.std.specs.Prelude.{option_map}
use Rattle.nesting.specs.Begins.{Saved}
use Rattle.bytecode.specs.Sequential.{OpenTransaction}
use Rattle.atomic_code.specs.inner.Making.{inner_of, thread_of, transaction_of}
use Rattle.atomic_code.proofs.Answering.{goes_back_inside, goes_back_outermost, cancel_inner, cancel_kept, cancel_outermost, cancel_outside}
use Rattle.atomic_code.proofs.context.AtomicContext.cancel.Goals as goal

pub returns-in-None : goal.returns-in-None
returns-in-None g c =
    let k = thread_of {A = g.row.A.Denot} c.args.self.now in
    let none = ap (option_map (transaction_of {A = g.row.A.Denot})) (sym c.take.ensures.value ∙ c.in-None.is) in
    λ m. cancel_outside c.args.code.now c.requires.valid k c.requires.running c.requires.runs m c.args.levels c.requires.cancels _ none refl (ap (option_map (transaction_of {A = g.row.A.Denot})) c.take.ensures.after) refl refl

pub go_back-requires-clause-back : goal.go_back-requires-clause-back
go_back-requires-clause-back g c =
    let k = thread_of {A = g.row.A.Denot} c.args.self.now in
    let some = ap (option_map (transaction_of {A = g.row.A.Denot})) (sym c.take.ensures.value ∙ c.in-Some.is) in
    (goes_back_inside c.args.code.now c.requires.valid k c.requires.running c.requires.runs (transaction_of c.in-Some.open) some (c.args.levels - 1) (inner_of c.in-Some-close_several.inner) _ (ap (λ (t : OpenTransaction Saved). t.inner) c.in-Some-close_several.ensures.some)).0

pub go_back-requires-clause-of : goal.go_back-requires-clause-of
go_back-requires-clause-of g c =
    let k = thread_of {A = g.row.A.Denot} c.args.self.now in
    let some = ap (option_map (transaction_of {A = g.row.A.Denot})) (sym c.take.ensures.value ∙ c.in-Some.is) in
    (goes_back_inside c.args.code.now c.requires.valid k c.requires.running c.requires.runs (transaction_of c.in-Some.open) some (c.args.levels - 1) (inner_of c.in-Some-close_several.inner) _ (ap (λ (t : OpenTransaction Saved). t.inner) c.in-Some-close_several.ensures.some)).1

pub go_back-requires-in-None-close_several-clause-back : goal.go_back-requires-in-None-close_several-clause-back
go_back-requires-in-None-close_several-clause-back g c =
    let k = thread_of {A = g.row.A.Denot} c.args.self.now in
    let e = c.in-None-close_several.ensures in
    let some = ap (option_map (transaction_of {A = g.row.A.Denot})) (sym c.take.ensures.value ∙ c.in-Some.is) ∙ ap Some (sym e.same) in
    (goes_back_outermost c.args.code.now c.requires.valid k c.requires.running c.requires.runs (transaction_of c.close_several.new.transaction) some (c.args.levels - 1) (ap (λ (t : OpenTransaction Saved). drop (c.args.levels - 1) t.inner) e.same ∙ e.none)).0

pub go_back-requires-in-None-close_several-clause-of : goal.go_back-requires-in-None-close_several-clause-of
go_back-requires-in-None-close_several-clause-of g c =
    let k = thread_of {A = g.row.A.Denot} c.args.self.now in
    let e = c.in-None-close_several.ensures in
    let some = ap (option_map (transaction_of {A = g.row.A.Denot})) (sym c.take.ensures.value ∙ c.in-Some.is) ∙ ap Some (sym e.same) in
    (goes_back_outermost c.args.code.now c.requires.valid k c.requires.running c.requires.runs (transaction_of c.close_several.new.transaction) some (c.args.levels - 1) (ap (λ (t : OpenTransaction Saved). drop (c.args.levels - 1) t.inner) e.same ∙ e.none)).1

pub returns-in-Some-close_several : goal.returns-in-Some-close_several
returns-in-Some-close_several g c =
    let k = thread_of {A = g.row.A.Denot} c.args.self.now in
    let some = ap (option_map (transaction_of {A = g.row.A.Denot})) (sym c.take.ensures.value ∙ c.in-Some.is) in
    λ m. cancel_inner c.args.code.now c.requires.valid k c.requires.running c.requires.runs m c.args.levels c.requires.cancels _ (transaction_of c.in-Some.open) (transaction_of c.close_several.new.transaction) (inner_of c.in-Some-close_several.inner) some
    c.in-Some-close_several.ensures.some c.go_back.ensures refl refl refl

pub returns-then-open : goal.returns-then-open
returns-then-open g c =
    let k = thread_of {A = g.row.A.Denot} c.args.self.now in
    let e = c.in-None-close_several.ensures in
    let some = ap (option_map (transaction_of {A = g.row.A.Denot})) (sym c.take.ensures.value ∙ c.in-Some.is) ∙ ap Some (sym e.same) in
    let all = ap (λ (t : OpenTransaction Saved). drop (c.args.levels - 1) t.inner) e.same ∙ e.none in
    λ m. cancel_kept c.args.code.now c.requires.valid k c.requires.running c.requires.runs m c.args.levels c.requires.cancels (transaction_of c.close_several.new.transaction) some all _ c.if-open.true refl refl refl refl

pub returns-else-open : goal.returns-else-open
returns-else-open g c =
    let k = thread_of {A = g.row.A.Denot} c.args.self.now in
    let e = c.in-None-close_several.ensures in
    let some = ap (option_map (transaction_of {A = g.row.A.Denot})) (sym c.take.ensures.value ∙ c.in-Some.is) ∙ ap Some (sym e.same) in
    let all = ap (λ (t : OpenTransaction Saved). drop (c.args.levels - 1) t.inner) e.same ∙ e.none in
    λ m. cancel_outermost c.args.code.now c.requires.valid k c.requires.running c.requires.runs m c.args.levels c.requires.cancels (transaction_of c.close_several.new.transaction) some all _ _ c.if-open.false refl c.go_back-in-None-close_several.ensures (ap (option_map (transaction_of {A = g.row.A.Denot})) c.take.ensures.after) refl refl
