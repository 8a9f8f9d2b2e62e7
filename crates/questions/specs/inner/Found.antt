-- A question that was found, as the number of its line and its words.
use Rattle.std.specs.Prelude.{ℕ, List, [], ◌∷◌, Option, Some, None, map}
use Rattle.questions.specs.Questions.{Text}
use Rattle.questions.specs.declared.asked.Question.{Question}

abbrev pub pair_of : Question → ℕ × List Text
pair_of q = (q.line, map (λ w. w.now) q.words.items)

-- none, or one
abbrev pub pairs_of : Option Question → List (ℕ × List Text)
pairs_of None = []
pairs_of (Some q) = pair_of q ∷ []
