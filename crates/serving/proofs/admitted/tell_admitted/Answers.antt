use Rattle.std.proofs.Common.{◌≡◌, ◌∙◌, List, ℕ, sym}
use Rattle.report.specs.declared.outcome_list.WalkEnd.TheVariants.{Whole}
use Rattle.serving.specs.inner.Admitted.{SaysSoOf, ShowsNoneOf}
use Rattle.serving.proofs.Verdicts.{prints_so, prints_text}
use Rattle.serving.proofs.admitted.tell_admitted.Goals as goal

pub returns-then-is_admitted : goal.returns-then-is_admitted
returns-then-is_admitted g c =
    let told = c.args.told.now in
    prints_text (SaysSoOf told.is_admitted told.text.items) (ShowsNoneOf c.args.found.now.end told.is_admitted told.text.items) c.as_slice-text.result.now c.print_text.result _ _
    (sym c.is_admitted.ensures ∙ c.if-is_admitted.true, c.as_slice-text.ensures.value) c.print_text.ensures.status c.print_text.ensures.printed c.print_text.ensures.written

pub returns : goal.returns
returns g c =
    let told = c.args.told.now in
    let end = c.args.found.now.end in
    prints_so (λ (w : List ℕ). ⊥) (λ (w : List ℕ). (end ≡ Whole) × (w ≡ c.as_slice-text.result.now)) (SaysSoOf told.is_admitted told.text.items) (ShowsNoneOf end told.is_admitted told.text.items)
    (λ w so. absurd so) (λ w no. (sym c.is_admitted.ensures ∙ c.if-is_admitted.false, no.0, no.1 ∙ c.as_slice-text.ensures.value)) c.tell_nearest.result _ _ c.tell_nearest.ensures
