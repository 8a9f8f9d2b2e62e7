use Rattle.std.proofs.Common.{arith, inl, refl}
use Rattle.parse.specs.Faults.{source_of}
use Rattle.serving.proofs.CoveringTold.{says_nothing, serves_covered}
use Rattle.serving.proofs.cover.cover_text.Goals as goal

pub returns-in-Ok : goal.returns-in-Ok
returns-in-Ok g c =
    serves_covered c.args.coverage.now c.args.text.now (source_of c.in-Ok.compiled.accepted.safe.typed.unit) c.in-Ok.ensures.source c.in-Ok.compiled.accepted.accepted c.cover_program.result _ _ c.cover_program.ensures

pub returns-in-Err : goal.returns-in-Err
returns-in-Err g c = record {
  within = let most = c.refuse.ensures.within in omega (arith, most);
  answers = says_nothing _ c.refuse.result _ _ c.refuse.ensures.not_ended (λ z. absurd (omega (arith, c.refuse.ensures.within, z)));
  refused = λ one. (c.in-Err.fault, c.in-Err.ensures.err, c.refuse.ensures.refused one);
  written = inl refl;
  untouched = λ one. refl;
}
