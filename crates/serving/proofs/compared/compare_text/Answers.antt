use Rattle.std.proofs.Common.{sym, subst}
use Rattle.serving.specs.Compared.{HaveNoCode}
use Rattle.serving.proofs.Admitting.{comparison_admitted, compares_admitted}
use Rattle.serving.proofs.Comparing.{comparison_expected, comparison_refined, compares_expected, compares_refined}
use Rattle.serving.proofs.compared.compare_text.Goals as goal

pub returns-in-Refined : goal.returns-in-Refined
returns-in-Refined g c = record {
  within = c.refine.ensures.within;
  answers = compares_refined c.args.comparison.now c.in-Refined.file _ c.args.text.now (g.Q.Read.remaining c.args.other) c.as_str.ensures.value c.refine.result _ _ c.in-Refined.is c.refine.ensures.answers;
  refused = λ one. subst (λ a. HaveNoCode a (g.Q.Read.remaining c.args.other) c.args.text.now) (sym c.in-Refined.is) (c.refine.ensures.refused one);
  written = comparison_refined c.args.comparison.now c.in-Refined.file _ c.args.text.now (g.Q.Read.remaining c.args.other) c.as_str.ensures.value _ _ c.in-Refined.is c.refine.ensures.written;
  untouched = c.refine.ensures.untouched;
}

pub returns-in-Expected : goal.returns-in-Expected
returns-in-Expected g c = record {
  within = c.expect.ensures.within;
  answers = compares_expected c.args.comparison.now c.in-Expected.file c.args.text.now (g.Q.Read.remaining c.args.other) c.expect.result _ _ c.in-Expected.is c.expect.ensures.answers;
  refused = λ one. subst (λ a. HaveNoCode a (g.Q.Read.remaining c.args.other) c.args.text.now) (sym c.in-Expected.is) (c.expect.ensures.refused one);
  written = comparison_expected c.args.comparison.now c.in-Expected.file c.args.text.now (g.Q.Read.remaining c.args.other) _ _ c.in-Expected.is c.expect.ensures.written;
  untouched = c.expect.ensures.untouched;
}

pub returns-in-Admitted : goal.returns-in-Admitted
returns-in-Admitted g c = record {
  within = c.admit.ensures.within;
  answers = compares_admitted c.args.comparison.now c.in-Admitted.file _ c.args.text.now (g.Q.Read.remaining c.args.other) c.as_str-in-Admitted.ensures.value c.admit.result _ _ c.in-Admitted.is c.admit.ensures.answers;
  refused = λ one. subst (λ a. HaveNoCode a (g.Q.Read.remaining c.args.other) c.args.text.now) (sym c.in-Admitted.is) (c.admit.ensures.refused one);
  written = comparison_admitted c.args.comparison.now c.in-Admitted.file _ c.args.text.now (g.Q.Read.remaining c.args.other) c.as_str-in-Admitted.ensures.value _ _ c.in-Admitted.is c.admit.ensures.written;
  untouched = c.admit.ensures.untouched;
}
