use Rattle.std.proofs.Common.{◌≡◌, ◌≤◌, ◌+◌, length, drop}
use Rattle.selection.specs.Loops.{looped_from}
use Rattle.lower.specs.inner.Looped.{looped_in}
use Rattle.lower.proofs.loops.in_loops.Given as goal

-- what is known of the instructions that were passed
abbrev pub invariant-each : goal.invariant-each
invariant-each g l = record {
  within : l.left ≤ length l.code;
  place : l.at ≡ l.from + l.left;
  looped : looped_in l.looped ≡ looped_from l.at (drop l.left l.code);
}

abbrev pub decreases-each : goal.decreases-each
decreases-each g l = l.left
