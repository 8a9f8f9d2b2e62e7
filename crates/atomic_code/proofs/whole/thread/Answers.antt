use Rattle.std.proofs.Common.{◌≡◌, ◌+◌, ◌-◌, ◌++◌, ◌∷◌, [], refl, ap, sym, subst, ◌∙◌, List, length, arith}
use Rattle.std.specs.Prelude.{slice_get}
use Rattle.std.proofs.lemmas.List.{length-map, map-append}
use Rattle.syntax.specs.Behaviours.{ThreadEnd, Memory}
use Rattle.bytecode.specs.Valid.{bounds_of}
use Rattle.atomic_code.specs.declared.context.Signal.TheVariants.{Goes, Leaves, Wants}
use Rattle.atomic_code.specs.Whole.{memories_in, thread_end_in}
use Rattle.atomic_code.specs.inner.Making.{HasMemoryAtHand, thread_of}
use Rattle.atomic_code.specs.inner.Carrying.{ComesTo}
use Rattle.atomic_code.specs.inner.Standing.{HasComeTo}
use Rattle.atomic_code.proofs.Threads.{runs_at_first}
use Rattle.atomic_code.proofs.Wholes.{comes_to_first, goes_on, goes_outcome, memory_found, over_outcome, wants_outcome}
use Rattle.atomic_code.proofs.whole.thread.Goals as goal

pub turns-init : goal.turns-init
turns-init g c =
    rw c.new-lefts.ensures.items (comes_to_first c.args.code.now c.args.number (memories_in c.args.founds.now) c.args.steps _ c.in_ok-frames.ensures refl c.new-2.ensures.bytes refl
    (runs_at_first c.args.code.now c.note_valid.ensures c.in_ok-frames.frames.configuration _ c.args.number (omega arith) c.in_ok-frames.ensures))

pub carry_on-more-requires-clause-found : goal.carry_on-more-requires-clause-found
carry_on-more-requires-clause-found g c =
    subst (HasMemoryAtHand (bounds_of c.args.code.now)) (sym c.memory_at-found.ensures) (memory_found (bounds_of c.args.code.now) (memories_in c.args.founds.now) c.len.result c.requires)

pub returns-in-Ok-Goes : goal.returns-in-Ok-Goes
returns-in-Ok-Goes g c =
    let fs = memories_in c.args.founds.now in
    let ls = memories_in c.turns.lefts.items in
    let k = thread_of {A = g.row.A.Denot} c.turns.context in
    let l = thread_of {A = g.row.A.Denot} c.carry_on-more.new.self in
    let n : c.len.result ≡ length ls = omega (arith, c.len.ensures, length-map c.turns.lefts.items (λ v. v.items)) in
    let x = rw (c.in-Ok-Goes.is, c.in-Ok-Goes.field-0-is) at c.carry_on-more.ensures in
    let y = subst (λ m. ComesTo {A = g.row.A.Denot} c.args.code.now m (c.args.steps - c.turns.made) k c.carry_on-more.result.0 Goes l) (c.memory_at-found.ensures ∙ ap (slice_get fs) n) x in
    ap (λ (e : ThreadEnd). record { lefts = ls; text = l.text; end = e }) c.end_without_want-end.ensures
    ∙ sym (goes_outcome c.args.code.now c.args.number fs c.args.steps c.turns.made ls k c.turns.invariant c.carry_on-more.result.0 l y)

pub returns-in-Ok-Wants : goal.returns-in-Ok-Wants
returns-in-Ok-Wants g c =
    let fs = memories_in c.args.founds.now in
    let ls = memories_in c.turns.lefts.items in
    let k = thread_of {A = g.row.A.Denot} c.turns.context in
    let l = thread_of {A = g.row.A.Denot} c.carry_on-more.new.self in
    let n : c.len.result ≡ length ls = omega (arith, c.len.ensures, length-map c.turns.lefts.items (λ v. v.items)) in
    let x = rw (c.in-Ok-Wants.is, c.in-Ok-Wants.field-0-is) at c.carry_on-more.ensures in
    let y = subst (λ m. ComesTo {A = g.row.A.Denot} c.args.code.now m (c.args.steps - c.turns.made) k c.carry_on-more.result.0 Wants l) (c.memory_at-found.ensures ∙ ap (slice_get fs) n) x in
    sym (wants_outcome c.args.code.now c.args.number fs c.args.steps c.turns.made ls k c.turns.invariant c.carry_on-more.result.0 l y)

pub returns-then-not-runs : goal.returns-then-not-runs
returns-then-not-runs g c =
    let fs = memories_in c.args.founds.now in
    let ls = memories_in c.turns.lefts.items in
    let k = thread_of {A = g.row.A.Denot} c.turns.context in
    let l = thread_of {A = g.row.A.Denot} c.carry_on-more.new.self in
    let left = c.in-Ok-Leaves.memory in
    let n : c.len.result ≡ length ls = omega (arith, c.len.ensures, length-map c.turns.lefts.items (λ v. v.items)) in
    let x = rw (c.in-Ok-Leaves.is, c.in-Ok-Leaves.field-0-is) at c.carry_on-more.ensures in
    let y = subst (λ m. ComesTo {A = g.row.A.Denot} c.args.code.now m (c.args.steps - c.turns.made) k c.carry_on-more.result.0 (Leaves left) l) (c.memory_at-found.ensures ∙ ap (slice_get fs) n) x in
    let lefts = ap memories_in c.in_ok-push-in-Ok-Leaves.ensures.items ∙ map-append (λ v. v.items) c.turns.lefts.items (left ∷ []) in
    ap (λ (ms : List Memory). record { lefts = ms; text = l.text; end = thread_end_in c.end_without_want-end-then-not-runs.result }) lefts
    ∙ ap (λ (e : ThreadEnd). record { lefts = ls ++ left.items ∷ []; text = l.text; end = e }) c.end_without_want-end-then-not-runs.ensures
    ∙ sym (over_outcome c.args.code.now c.args.number fs c.args.steps c.turns.made ls k c.turns.invariant c.carry_on-more.result.0 l left y (λ e. let t = c.runs.ensures.1 e in absurd (cc)))

pub turns-preserved : goal.turns-preserved
turns-preserved g c =
    let fs = memories_in c.args.founds.now in
    let ls = memories_in c.turns.lefts.items in
    let k = thread_of {A = g.row.A.Denot} c.turns.context in
    let l = thread_of {A = g.row.A.Denot} c.carry_on-more.new.self in
    let left = c.in-Ok-Leaves.memory in
    let n : c.len.result ≡ length ls = omega (arith, c.len.ensures, length-map c.turns.lefts.items (λ v. v.items)) in
    let x = rw (c.in-Ok-Leaves.is, c.in-Ok-Leaves.field-0-is) at c.carry_on-more.ensures in
    let y = subst (λ m. ComesTo {A = g.row.A.Denot} c.args.code.now m (c.args.steps - c.turns.made) k c.carry_on-more.result.0 (Leaves left) l) (c.memory_at-found.ensures ∙ ap (slice_get fs) n) x in
    let lefts = ap memories_in c.in_ok-push-in-Ok-Leaves.ensures.items ∙ map-append (λ v. v.items) c.turns.lefts.items (left ∷ []) in
    subst (λ ms. HasComeTo c.args.code.now c.args.number fs c.args.steps (c.turns.made + c.carry_on-more.result.0) ms l) (sym lefts)
    (goes_on c.args.code.now c.args.number fs c.args.steps c.turns.made ls k c.turns.invariant c.carry_on-more.result.0 l left y (c.runs.ensures.0 c.if-not-runs.false))
