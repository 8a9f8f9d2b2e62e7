use Rattle.std.proofs.Common.{◌≡◌, ◌+◌, ◌-◌, ◌≤◌, drop, length}
use Rattle.syntax.specs.Formats.{pieces, specifiers}
use Rattle.types.proofs.format.count_specifiers.Given as goal

abbrev pub decreases-directives : goal.decreases-directives
decreases-directives l = length l.format - l.i

abbrev pub invariant-directives : goal.invariant-directives
invariant-directives l =
    (l.count + length (specifiers (pieces (drop l.i l.format))) ≡ length (specifiers (pieces l.format)))
    × (l.count ≤ l.i) × (l.i ≤ length l.format)
