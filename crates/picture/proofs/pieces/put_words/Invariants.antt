use Rattle.std.proofs.Common.{◌≡◌, ◌++◌, drop}
use Rattle.picture.specs.Figures.{xml}
use Rattle.picture.proofs.pieces.put_words.Given as goal

-- what is written and what is to come make up the whole
abbrev pub invariant-bytes : goal.invariant-bytes
invariant-bytes g l = l.to.items ++ xml (drop l.byte-index l.words) ≡ l.initial.to.items ++ xml l.words
