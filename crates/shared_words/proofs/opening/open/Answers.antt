use Rattle.std.proofs.Common.{◌∙◌, ◌∷◌, ap, subst}
use Rattle.bytecode.specs.Code.{Code}
use Rattle.bytecode.specs.Initial.{initial_of}
use Rattle.bytecode.specs.Valid.{IsValid}
use Rattle.shared_words.proofs.Opens.{opens}
use Rattle.shared_words.proofs.opening.open.Goals as goal

pub of_words-requires : goal.of_words-requires
of_words-requires g c =
    opens c.args.setup.now c.as_slice.result.now (subst IsValid c.code.ensures c.in_ok-words.ensures.valid)
    (c.as_slice.ensures.value ∙ (c.in_ok-words.ensures.words ∙ ap (λ (k : Code). 0 ∷ initial_of k) c.code.ensures))
