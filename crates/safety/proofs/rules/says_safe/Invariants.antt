use Rattle.std.proofs.Common.{◌≡◌, drop}
use Rattle.safety.specs.Faults.{says_safe}
use Rattle.safety.proofs.rules.says_safe.Given as goal

abbrev pub invariant-each : goal.invariant-each
invariant-each l = says_safe (drop l.one-index l.all) ≡ says_safe l.all
