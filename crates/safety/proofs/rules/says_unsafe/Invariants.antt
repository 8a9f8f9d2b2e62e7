use Rattle.std.proofs.Common.{◌≡◌, drop}
use Rattle.safety.specs.inner.UnsafeLinks.{says_unsafe}
use Rattle.safety.proofs.rules.says_unsafe.Given as goal

abbrev pub invariant-each : goal.invariant-each
invariant-each l = says_unsafe (drop l.one-index l.all) ≡ says_unsafe l.all
