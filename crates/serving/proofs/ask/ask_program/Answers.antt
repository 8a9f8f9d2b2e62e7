use Rattle.std.proofs.Common.{◌∙◌, ◌++◌, ap, ap₂, false, map, subst, true}
use Rattle.syntax.specs.Views.{program_of}
use Rattle.serving.specs.Properties.{HasUnaskable, asked_each}
use Rattle.serving.proofs.Answering.{prints_asked}
use Rattle.serving.proofs.ask.ask_program.Goals as goal

pub returns-in-Ok-names_of-clause-prints : goal.returns-in-Ok-names_of-clause-prints
returns-in-Ok-names_of-clause-prints g c =
    let same = ap₂ (λ a l. asked_each false a ++ asked_each true l) (ap (map (λ n. n.now)) c.as_slice.ensures.value ∙ c.in-Ok.ensures) (ap (map (λ n. n.now)) c.as_slice-in-Ok-names_of.ensures.value ∙ c.in-Ok-names_of.ensures) in
    prints_asked (program_of c.args.compiled.now.accepted.safe.typed.unit) c.args.questions.now.steps _ _ _ _ c.ask_in_turn.result _ _ same c.ask_in_turn.ensures.prints

pub returns-in-Ok-names_of-clause-unaskable : goal.returns-in-Ok-names_of-clause-unaskable
returns-in-Ok-names_of-clause-unaskable g c = λ two.
    let same = ap₂ (λ a l. asked_each false a ++ asked_each true l) (ap (map (λ n. n.now)) c.as_slice.ensures.value ∙ c.in-Ok.ensures) (ap (map (λ n. n.now)) c.as_slice-in-Ok-names_of.ensures.value ∙ c.in-Ok-names_of.ensures) in
    subst (HasUnaskable (program_of c.args.compiled.now.accepted.safe.typed.unit)) same (c.ask_in_turn.ensures.unaskable two)
