use Rattle.std.proofs.Common.{◌≡◌, map, take}
use Rattle.system.specs.Tests.{request_words}
use Rattle.system.proofs.question.request_words.Given as goal

-- the words so far are those of the request
abbrev pub invariant-words : goal.invariant-words
invariant-words l = map (λ w. w.now) l.all.items ≡ request_words l.file (map (λ w. w.now) (take l.word-index l.words))
