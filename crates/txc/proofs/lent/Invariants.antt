use Rattle.std.proofs.Common.{◌≡◌, map, string_bytes, take}
use Rattle.txc.proofs.lent.Given as goal

-- the words so far are lent
abbrev pub invariant-words : goal.invariant-words
invariant-words l = map (λ w. w.now) l.all.items ≡ map string_bytes (take l.word-index l.words)
