use Rattle.std.proofs.Common.{◌≡◌, drop}
use Rattle.syntax.specs.Views.{stmts_of}
use Rattle.lower.specs.Nested.{any_too_deep}
use Rattle.lower.proofs.deep.+deep_stmt.Given as goal

abbrev pub invariant-deep_stmts-each : goal.invariant-deep_stmts-each
invariant-deep_stmts-each g l = any_too_deep (stmts_of (drop l.s-index l.body)) l.count ≡ any_too_deep (stmts_of l.body) l.count
