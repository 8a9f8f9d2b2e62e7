use Rattle.std.proofs.Common.{◌≡◌, map, take}
use Rattle.questions.specs.Questions.{expected_of}
use Rattle.questions.proofs.expected.answer_expected.Given as goal

-- the last word so far says what is expected
abbrev pub invariant-words : goal.invariant-words
invariant-words l = l.expected ≡ expected_of (map (λ w. w.now) (take l.word-index l.words))
