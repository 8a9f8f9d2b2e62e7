use Rattle.std.proofs.Common.{◌-◌, arith, refl}
use Rattle.std.specs.Prelude.{string_bytes}
use Rattle.serving.specs.Limits.{HasNoCode}
use Rattle.serving.proofs.Comparing.{AreRefinedTexts, AreRefinedTold, nothing_refined_written, other_lacks, passed_on, unread_refined}
use Rattle.serving.proofs.Opening.{few}
use Rattle.serving.proofs.Verdicts.{known_is, known_or}
use Rattle.serving.proofs.refined.refine.Goals as goal

pub returns-in-Ok : goal.returns-in-Ok
returns-in-Ok g c = record {
  within = c.refine_text.ensures.within;
  answers = known_is (λ bytes. AreRefinedTold c.args.name.now c.args.text.now (c.args.last - c.args.limits.threads) c.args.limits.threads bytes c.refine_text.result _ _)
      (g.Q.Read.remaining c.args.other) (string_bytes c.in-Ok.other) c.as_str.result.now c.in-Ok.ensures.ok c.as_str.ensures.value c.refine_text.ensures.answers;
  refused = λ one. known_or (HasNoCode c.args.text.now) HasNoCode (g.Q.Read.remaining c.args.other) (string_bytes c.in-Ok.other) c.as_str.result.now c.in-Ok.ensures.ok c.as_str.ensures.value (c.refine_text.ensures.refused one);
  written = known_is (λ bytes. AreRefinedTexts c.args.name.now c.args.text.now (c.args.last - c.args.limits.threads) c.args.limits.threads bytes _ _)
      (g.Q.Read.remaining c.args.other) (string_bytes c.in-Ok.other) c.as_str.result.now c.in-Ok.ensures.ok c.as_str.ensures.value c.refine_text.ensures.written;
  untouched = c.refine_text.ensures.untouched;
}

pub returns-in-Err : goal.returns-in-Err
returns-in-Err g c =
    let known = g.Q.Read.remaining c.args.other in
    let is = passed_on c.in-Err.status c.tell_whose.result c.tell_whose.ensures c.in-Err.ensures.status in
    record {
      within = let most = few c.tell_whose.result is in omega (arith, most);
      answers = unread_refined c.args.name.now c.args.text.now (c.args.last - c.args.limits.threads) c.args.limits.threads known c.tell_whose.result _ _ is;
      refused = other_lacks c.args.text.now known c.tell_whose.result is;
      written = nothing_refined_written c.args.name.now c.args.text.now (c.args.last - c.args.limits.threads) c.args.limits.threads known _ _ refl;
      untouched = λ one. refl;
    }
