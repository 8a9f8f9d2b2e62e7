use Rattle.std.proofs.Common.{◌≡◌, ◌≤◌, ◌-◌, drop, length}
use Rattle.syntax.specs.Formats.{pieces}
use Rattle.selection.specs.Statements.{pieces_written}
use Rattle.lower_exprs.specs.Lists.{lists_of}
use Rattle.lower_exprs.proofs.Adding.{written_behind}
use Rattle.lower.specs.inner.Formats.{with_literal}
use Rattle.lower.proofs.print.put_pieces.Given as goal

abbrev pub decreases-directives : goal.decreases-directives
decreases-directives g l = length l.format - l.i

-- what is put and what is to come are the whole
abbrev pub invariant-directives : goal.invariant-directives
invariant-directives g l =
    let rest = pieces_written (with_literal l.bytes.items (pieces (drop l.i l.format))) (drop l.k l.registers) l.to (lists_of l.lists) in
    let whole = pieces_written (pieces l.format) l.registers l.from (lists_of l.fn.lists) in
    record {
      within : l.i ≤ length l.format;
      taken : l.k ≤ l.i;
      code : written_behind l.code.items rest ≡ written_behind l.fn.code.items whole;
    }
