use Rattle.std.proofs.Common.{◌≡◌, ◌≤◌, ◌-◌, drop, length}
use Rattle.syntax.specs.Formats.{is_format}
use Rattle.types.proofs.format.is_format.Given as goal

abbrev pub decreases-directives : goal.decreases-directives
decreases-directives l = length l.format - l.i

abbrev pub invariant-directives : goal.invariant-directives
invariant-directives l = (is_format (drop l.i l.format) ≡ is_format l.format) × (l.i ≤ length l.format)
