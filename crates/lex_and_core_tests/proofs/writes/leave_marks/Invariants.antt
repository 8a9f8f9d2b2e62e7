use Rattle.std.proofs.Common.{◌≡◌, ◌+◌, length}
use Rattle.lex_and_core_tests.proofs.writes.leave_marks.Given as goal

abbrev pub invariant-marks : goal.invariant-marks
invariant-marks l = length l.log.marks + l.n ≡ 16
