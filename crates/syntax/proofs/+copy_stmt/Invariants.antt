use Rattle.std.proofs.Common.{◌≡◌, take}
use Rattle.syntax.proofs.+copy_stmt.Given as goal

abbrev pub invariant-copy_stmt::copy_stmts-each : goal.invariant-copy_stmt::copy_stmts-each
invariant-copy_stmt::copy_stmts-each g l = l.copies ≡ take l.one-index l.all
