use Rattle.std.proofs.Common.{◌≡◌, drop}
use Rattle.parameters.specs.Puts.{number_for}
use Rattle.parameters.proofs.put.number_for.Given as goal

-- the definitions so far are of other names
abbrev pub invariant-definitions : goal.invariant-definitions
invariant-definitions l = number_for (drop l.definition-index l.definitions) l.name ≡ number_for l.definitions l.name
