use Rattle.std.proofs.Common.{◌∙◌, inr, map, refl}
use Rattle.report.specs.CoveringViews.{covering_of}
use Rattle.serving.proofs.CoveringTold.{refused_coverings, says_nothing, tells_covered, text_of_covered}
use Rattle.serving.proofs.Verdicts.{at_most_five, not_five, not_one, not_zero}
use Rattle.serving.proofs.cover.print_covered.Goals as goal

pub returns-in-Ok-print : goal.returns-in-Ok-print
returns-in-Ok-print g c =
    let found = map covering_of c.args.found.now in
    let whole = c.as_slice.ensures.value ∙ c.in-Ok.ensures in
    record {
      within = c.status_of_covered.ensures.within;
      answers = tells_covered found c.as_slice.result.now whole c.status_of_covered.result _ _ c.in-Ok-print.ensures.whole c.status_of_covered.ensures.held c.status_of_covered.ensures.failed;
      refused = c.status_of_covered.ensures.not_refused;
      written = inr (c.as_slice.result.now, text_of_covered found c.as_slice.result.now whole, c.in-Ok-print.ensures.part);
      untouched = λ one. absurd (c.status_of_covered.ensures.not_refused one);
    }

pub returns-in-Ok : goal.returns-in-Ok
returns-in-Ok g c =
    let found = map covering_of c.args.found.now in
    let whole = c.as_slice.ensures.value ∙ c.in-Ok.ensures in
    let four = inr c.cannot_write.ensures in
    record {
      within = at_most_five c.cannot_write.result four;
      answers = says_nothing _ c.cannot_write.result _ _ (not_zero c.cannot_write.result four) (not_five c.cannot_write.result four);
      refused = not_one c.cannot_write.result four;
      written = inr (c.as_slice.result.now, text_of_covered found c.as_slice.result.now whole, c.in-Err-print.ensures.part);
      untouched = λ one. absurd (not_one c.cannot_write.result four one);
    }

pub returns : goal.returns
returns g c = refused_coverings _ c.out_of_memory.result _ _ (inr c.out_of_memory.ensures) refl
