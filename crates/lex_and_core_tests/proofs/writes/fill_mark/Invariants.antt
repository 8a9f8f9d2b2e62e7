use Rattle.std.proofs.Common.{◌≡◌}
use Rattle.lex_and_core_tests.proofs.writes.fill_mark.Given as goal

abbrev pub invariant-writes : goal.invariant-writes
invariant-writes l = l.log.marks ≡ l.fn.log.marks
