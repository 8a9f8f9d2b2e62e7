use Rattle.std.proofs.Common.{◌≡◌, ◌==◌, map, take}
use Rattle.std.specs.Prelude.{filter, length, not}
use Rattle.questions.proofs.asked.words.Given as goal

-- the words so far are those of the parts so far
abbrev pub invariant-parts : goal.invariant-parts
invariant-parts l = map (λ p. p.now) l.words.items ≡ filter (λ w. not (length w == 0)) (map (λ p. p.now) (take l.part-index l.part-items))
