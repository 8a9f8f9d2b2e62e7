use Rattle.std.proofs.Common.{◌≡◌, map, take}
use Rattle.questions.specs.Questions.{questions_from}
use Rattle.questions.proofs.asked.questions.Given as goal

-- the questions so far are those of the lines so far
abbrev pub invariant-lines : goal.invariant-lines
invariant-lines l = (l.number ≡ l.line-index) × (map (λ q. (q.line, map (λ w. w.now) q.words.items)) l.questions.items ≡ questions_from 1 (map (λ p. p.now) (take l.line-index l.line-items)))
