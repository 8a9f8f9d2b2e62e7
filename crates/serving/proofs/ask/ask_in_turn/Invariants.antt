use Rattle.std.proofs.Common.{◌++◌, ◌-◌, false, map, true}
use Rattle.syntax.specs.Views.{program_of}
use Rattle.serving.specs.Properties.{AreAnswered, IsTextOfProperties, TellsProperties, asked_each}
use Rattle.serving.proofs.InTurn.{LeadsFrom}
use Rattle.serving.proofs.ask.ask_in_turn.Given as goal

-- an answer from this number of threads on is an answer from the first on
abbrev pub invariant-numbers : goal.invariant-numbers
invariant-numbers g l =
    LeadsFrom 5 (λ k t b a. TellsProperties k (AreAnswered (program_of l.compiled.accepted.safe.typed.unit) k l.questions.steps (asked_each false (map (λ n. n.now) l.always) ++ asked_each true (map (λ n. n.now) l.last))) t b a) (λ k w. IsTextOfProperties k (AreAnswered (program_of l.compiled.accepted.safe.typed.unit) k l.questions.steps (asked_each false (map (λ n. n.now) l.always) ++ asked_each true (map (λ n. n.now) l.last))) w) l.range.first l.range.last l.threads (g.W.Write.contents l.initial.out) (g.W.Write.contents l.out)

abbrev pub decreases-numbers : goal.decreases-numbers
decreases-numbers g l = l.range.last - l.threads
