use Rattle.std.proofs.Common.{◌-◌, arith, inl, inr, refl}
use Rattle.parse.specs.Faults.{source_of}
use Rattle.serving.proofs.Comparing.{none_refined, refined_served}
use Rattle.serving.proofs.refined.refine_text.Goals as goal

pub returns-in-Ok-compile : goal.returns-in-Ok-compile
returns-in-Ok-compile g c =
    refined_served c.args.text.now c.args.other.now (source_of c.in-Ok.this.accepted.safe.typed.unit) (source_of c.in-Ok-compile.that.accepted.safe.typed.unit) c.in-Ok.ensures.source c.in-Ok.this.accepted.accepted c.in-Ok-compile.ensures.source c.in-Ok-compile.that.accepted.accepted
    c.args.name.now (c.args.last - c.args.limits.threads) c.args.limits.threads c.refine_in_turn.result _ _ c.refine_in_turn.ensures

pub returns-in-Ok : goal.returns-in-Ok
returns-in-Ok g c = record {
  within = let most = c.refuse_other.ensures.within in omega (arith, most);
  answers = none_refined c.args.name.now c.args.text.now (c.args.last - c.args.limits.threads) c.args.limits.threads c.args.other.now c.refuse_other.result _ _ c.refuse_other.ensures.not_ended (λ five. absurd (let most = c.refuse_other.ensures.within in omega (arith, most, five)));
  refused = λ one. inr (c.in-Err-compile.fault, c.in-Err-compile.ensures.err, c.refuse_other.ensures.refused one);
  written = inl refl;
  untouched = λ one. refl;
}

pub returns : goal.returns
returns g c = record {
  within = let most = c.refuse.ensures.within in omega (arith, most);
  answers = none_refined c.args.name.now c.args.text.now (c.args.last - c.args.limits.threads) c.args.limits.threads c.args.other.now c.refuse.result _ _ c.refuse.ensures.not_ended (λ five. absurd (let most = c.refuse.ensures.within in omega (arith, most, five)));
  refused = λ one. inl (c.in-Err.fault, c.in-Err.ensures.err, c.refuse.ensures.refused one);
  written = inl refl;
  untouched = λ one. refl;
}
