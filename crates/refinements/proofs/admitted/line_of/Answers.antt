use Rattle.std.proofs.Common.{◌≡◌, ◌∙◌, subst}
use Rattle.std.specs.Prelude.{IfOk, MatchOption}
use Rattle.differences.specs.Texts.{IsFirstDifference}
use Rattle.refinements.proofs.admitted.line_of.Goals as goal

pub returns : goal.returns
returns g c =
    subst (λ t. IfOk c.first_line.result (λ o. MatchOption o (c.args.report.now ≡ t) (IsFirstDifference t c.args.report.now))) (c.as_slice.ensures.value ∙ c.in_ok-text.ensures) c.first_line.ensures
