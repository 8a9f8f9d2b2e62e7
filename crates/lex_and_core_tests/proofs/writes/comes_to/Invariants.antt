use Rattle.std.proofs.Common.{◌≡◌}
use Rattle.lex_and_core_tests.proofs.writes.comes_to.Given as goal

abbrev pub invariant-words : goal.invariant-words
invariant-words l = l.log.marks ≡ l.fn.log.marks
