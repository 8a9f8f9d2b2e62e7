use Rattle.std.proofs.Common.{take}
use Rattle.serving.specs.inner.Numbers.{AreUsedIn}
use Rattle.serving.proofs.numbers.first_unused.Given as goal

-- the names so far are used
abbrev pub invariant-definitions : goal.invariant-definitions
invariant-definitions l = AreUsedIn l.bytes l.other (take l.definition-index l.definitions)
