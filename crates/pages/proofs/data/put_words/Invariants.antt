use Rattle.std.proofs.Common.{◌≡◌, ◌++◌, drop, map}
use Rattle.pages.specs.Data.{number_token}
use Rattle.pages.proofs.data.put_words.Given as goal

-- what is written and what is to come make up the whole
abbrev pub invariant-words : goal.invariant-words
invariant-words g l =
    (l.to.before ≡ l.initial.to.before) × (l.to.tokens ++ map number_token (drop l.word-index l.words) ≡ l.initial.to.tokens ++ map number_token l.words)
