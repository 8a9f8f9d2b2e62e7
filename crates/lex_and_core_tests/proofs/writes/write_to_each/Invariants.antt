use Rattle.std.proofs.Common.{◌≡◌}
use Rattle.lex_and_core_tests.proofs.writes.write_to_each.Given as goal

abbrev pub invariant-cells : goal.invariant-cells
invariant-cells g l = l.log.marks ≡ l.fn.log.marks
