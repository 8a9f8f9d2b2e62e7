use Rattle.std.proofs.Common.{◌-◌, arith, inl, refl}
use Rattle.parse.specs.Faults.{source_of}
use Rattle.serving.specs.Properties.{AreFoundOfText, TellsProperties}
use Rattle.serving.proofs.Answering.{serves_text, tells_nothing, unaskable_text}
use Rattle.serving.proofs.InTurn.{stops}
use Rattle.serving.proofs.ask.ask_text.Goals as goal

pub returns-in-Ok-clause-serves : goal.returns-in-Ok-clause-serves
returns-in-Ok-clause-serves g c =
    serves_text c.args.questions.now c.args.text.now (source_of c.in-Ok.compiled.accepted.safe.typed.unit) c.in-Ok.ensures.source c.in-Ok.compiled.accepted.accepted c.ask_program.result _ _ c.ask_program.ensures.prints

pub returns-in-Ok-clause-unaskable : goal.returns-in-Ok-clause-unaskable
returns-in-Ok-clause-unaskable g c = λ two.
    unaskable_text c.args.questions.now c.args.text.now (source_of c.in-Ok.compiled.accepted.safe.typed.unit) c.in-Ok.ensures.source c.in-Ok.compiled.accepted.accepted (c.ask_program.ensures.unaskable two)

pub returns-in-Err-clause-serves : goal.returns-in-Err-clause-serves
returns-in-Err-clause-serves g c = record {
  within = let most = c.refuse.ensures.within in omega (arith, most);
  answers = stops (λ k t b a. TellsProperties k (AreFoundOfText c.args.questions.now c.args.text.now k) t b a) (c.args.questions.now.threads.last - c.args.questions.now.threads.first) c.args.questions.now.threads.first c.refuse.result _ _ c.refuse.ensures.not_ended
      (tells_nothing _ c.refuse.result _ _ c.refuse.ensures.not_ended (λ z. absurd (omega (arith, c.refuse.ensures.within, z))));
  refused = λ one. (c.in-Err.fault, c.in-Err.ensures.err, c.refuse.ensures.refused one);
  written = inl refl;
  untouched = λ one. refl;
}
