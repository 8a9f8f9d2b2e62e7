use Rattle.std.proofs.Common.{◌≡◌, ◌++◌, drop}
use Rattle.lower.proofs.generate.copy_globals.Given as goal

abbrev pub invariant-each : goal.invariant-each
invariant-each g l = l.all.items ++ drop l.g-index l.gs ≡ l.fn.all.items ++ l.gs
