use Rattle.std.proofs.Common.{◌≡◌, drop}
use Rattle.selection.specs.Loops as loops
use Rattle.lower.proofs.loops.has_word.Given as goal

-- none of the words that were passed is the one
abbrev pub invariant-each : goal.invariant-each
invariant-each l = loops.has_word l.words l.word ≡ loops.has_word (drop l.one-index l.words) l.word
