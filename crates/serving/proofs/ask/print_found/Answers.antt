use Rattle.std.proofs.Common.{◌∙◌, ap₂, inr, map}
use Rattle.report.specs.Properties.{properties_text}
use Rattle.report.specs.PropertyViews.{property_of}
use Rattle.report.specs.Views.{reported_of}
use Rattle.serving.proofs.Answering.{tells_nothing, tells_these, text_of_these}
use Rattle.serving.proofs.Verdicts.{at_most_five, not_five, not_one, not_zero}
use Rattle.serving.proofs.ask.print_found.Goals as goal

pub returns-in-Ok-print-clause-prints : goal.returns-in-Ok-print-clause-prints
returns-in-Ok-print-clause-prints g c =
    let found = c.args.found.now in
    let whole = c.as_slice-in-Ok.ensures.value ∙ c.in-Ok.ensures ∙ ap₂ (λ ps ss. properties_text (map property_of ps) (map reported_of ss) c.args.threads found.end) c.as_slice.ensures.value c.as_slice-2.ensures.value in
    record {
      within = c.status_of_found.ensures.within;
      answers = tells_these found.end (map property_of found.properties.items) (map reported_of found.stuck.items) c.args.threads c.status_of_found.result _ _ c.as_slice-in-Ok.result.now whole
          c.in-Ok-print.ensures.whole c.status_of_found.ensures.whole c.status_of_found.ensures.held c.status_of_found.ensures.none_stuck c.status_of_found.ensures.failed;
      refused = c.status_of_found.ensures.not_refused;
      written = inr (c.as_slice-in-Ok.result.now, text_of_these found.end (map property_of found.properties.items) (map reported_of found.stuck.items) c.args.threads _ whole, c.in-Ok-print.ensures.part);
      untouched = λ one. absurd (c.status_of_found.ensures.not_refused one);
    }

pub returns-in-Ok-clause-prints : goal.returns-in-Ok-clause-prints
returns-in-Ok-clause-prints g c =
    let found = c.args.found.now in
    let whole = c.as_slice-in-Ok.ensures.value ∙ c.in-Ok.ensures ∙ ap₂ (λ ps ss. properties_text (map property_of ps) (map reported_of ss) c.args.threads found.end) c.as_slice.ensures.value c.as_slice-2.ensures.value in
    let four = inr c.cannot_write.ensures in
    record {
      within = at_most_five c.cannot_write.result four;
      answers = tells_nothing _ c.cannot_write.result _ _ (not_zero c.cannot_write.result four) (not_five c.cannot_write.result four);
      refused = not_one c.cannot_write.result four;
      written = inr (c.as_slice-in-Ok.result.now, text_of_these found.end (map property_of found.properties.items) (map reported_of found.stuck.items) c.args.threads _ whole, c.in-Err-print.ensures.part);
      untouched = λ one. absurd (not_one c.cannot_write.result four one);
    }
