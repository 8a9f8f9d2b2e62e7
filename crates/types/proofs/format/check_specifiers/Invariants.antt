use Rattle.std.proofs.Common.{◌≡◌, ◌≤◌, ◌-◌, drop, length}
use Rattle.syntax.specs.Views.{exprs_of}
use Rattle.syntax.specs.Formats.{pieces, specifiers}
use Rattle.syntax.specs.Typing.{first_unmet, HaveTypes}
use Rattle.types.specs.inner.Known.{known_in}
use Rattle.types.proofs.format.check_specifiers.Given as goal

abbrev pub decreases-directives : goal.decreases-directives
decreases-directives g l = length l.format - l.i

abbrev pub invariant-directives : goal.invariant-directives
invariant-directives g l =
    (first_unmet (HaveTypes (known_in l.names) (specifiers (pieces (drop l.i l.format))) (exprs_of (drop l.next l.args))) ≡ first_unmet (HaveTypes (known_in l.names) (specifiers (pieces l.format)) (exprs_of l.args)))
    × (l.next ≤ length l.args) × (l.i ≤ length l.format)
