use Rattle.std.proofs.Common.{◌≡◌, drop}
use Rattle.syntax.specs.Views.{exprs_of}
use Rattle.lower.specs.Nested.{exprs_too_deep}
use Rattle.lower.proofs.deep.+deep_expr.Given as goal

abbrev pub invariant-deep_exprs-each : goal.invariant-deep_exprs-each
invariant-deep_exprs-each g l = exprs_too_deep (exprs_of (drop l.e-index l.all)) l.count ≡ exprs_too_deep (exprs_of l.all) l.count
