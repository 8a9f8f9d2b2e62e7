use Rattle.std.proofs.Common.{◌≡◌, ◌∙◌, ap₂, map}
use Rattle.report.specs.OutcomeList.{list_text}
use Rattle.report.specs.Views.{reported_of}
use Rattle.report.specs.declared.outcome_list.WalkEnd.TheVariants.{Whole}
use Rattle.serving.specs.inner.Compared.{list_of}
use Rattle.serving.proofs.Comparing.{expected_served}
use Rattle.serving.proofs.expected.expect_outcomes.Goals as goal

pub returns-in-Ok : goal.returns-in-Ok
returns-in-Ok g c =
    let found = c.args.found.now in
    let list = c.as_slice-in-Ok.result.now in
    let same = c.as_slice-in-Ok.ensures.value ∙ c.in-Ok.ensures ∙ ap₂ (λ os ss. list_text (map reported_of os) (map reported_of ss) found.states c.args.threads found.end) c.as_slice.ensures.value c.as_slice-2.ensures.value in
    expected_served (λ t. (found.end ≡ Whole) × (t ≡ list)) (λ t. (found.end ≡ Whole) × (t ≡ list_of found c.args.threads)) (λ t is. (is.0, is.1 ∙ same)) ⊥ (g.Q.Read.remaining c.args.expected) c.expect_list.result _ _ c.expect_list.ensures
