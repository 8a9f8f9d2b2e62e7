use Rattle.std.proofs.Common.{◌≡◌, ◌++◌, drop, map}
use Rattle.pages.specs.Data.{number_token}
use Rattle.pages.proofs.data.put_numbers.Given as goal

-- what is written and what is to come make up the whole
abbrev pub invariant-numbers : goal.invariant-numbers
invariant-numbers g l =
    (l.to.before ≡ l.initial.to.before) × (l.to.tokens ++ map number_token (drop l.number-index l.numbers) ≡ l.initial.to.tokens ++ map number_token l.numbers)
