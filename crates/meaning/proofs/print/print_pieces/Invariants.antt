use Rattle.std.proofs.Common.{◌≡◌, ◌≤◌, ◌-◌, drop, length}
use Rattle.syntax.specs.Formats.{pieces}
use Rattle.syntax.specs.Meaning.{print_pieces}
use Rattle.meaning.specs.inner.SourceThread.{state_in}
use Rattle.meaning.specs.inner.Printing.{print_from}
use Rattle.meaning.proofs.print.print_pieces.Given as goal

abbrev pub decreases-bytes : goal.decreases-bytes
decreases-bytes g l = length l.format - l.i

-- what is left of the format does what all of it does
abbrev pub invariant-bytes : goal.invariant-bytes
invariant-bytes g l = record {
  within : l.i ≤ length l.format;
  taken : l.k ≤ l.i;
  value : print_from l.begun (pieces (drop l.i l.format)) (drop l.k l.values) (state_in l.m) ≡ print_pieces (pieces l.format) l.values (state_in l.initial.m);
}
