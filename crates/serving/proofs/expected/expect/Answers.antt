use Rattle.std.proofs.Common.{◌≡◌, map, subst}
use Rattle.report.specs.OutcomeList.{list_text}
use Rattle.report.specs.Views.{reported_of}
use Rattle.report.specs.declared.outcome_list.WalkEnd.TheVariants.{Whole}
use Rattle.serving.specs.Limits.{HasNoCode}
use Rattle.serving.specs.Outcomes.{AreOutcomesOfText, IsListEnding}
use Rattle.serving.specs.inner.Compared.{list_of}
use Rattle.serving.proofs.Comparing.{expected_served}
use Rattle.serving.proofs.expected.expect.Goals as goal

pub returns-in-Ok : goal.returns-in-Ok
returns-in-Ok g c =
    let found = c.in-Ok.found in
    let outcomes = map reported_of found.outcomes.items in
    let stuck = map reported_of found.stuck.items in
    let threads = c.args.limits.threads in
    let text = c.args.text.now in
    expected_served (λ t. (found.end ≡ Whole) × (t ≡ list_of found threads)) (IsListEnding Whole threads text)
    (λ t is. (outcomes, stuck, found.states, subst (λ e. AreOutcomesOfText threads text e outcomes stuck) is.0 c.in-Ok.ensures.are, subst (λ e. t ≡ list_text outcomes stuck found.states threads e) is.0 is.1))
    (HasNoCode text) (g.Q.Read.remaining c.args.expected) c.expect_outcomes.result _ _ c.expect_outcomes.ensures
