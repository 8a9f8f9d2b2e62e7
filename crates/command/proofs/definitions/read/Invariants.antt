use Rattle.std.proofs.Common.{map, take}
use Rattle.command.specs.Asked.{AreDefinitionsOf}
use Rattle.command.proofs.definitions.read.Given as goal

-- what the words so far define
abbrev pub invariant-words : goal.invariant-words
invariant-words l = AreDefinitionsOf l.threads (map (λ w. w.now) (take l.word-index l.words)) l.definitions.items
