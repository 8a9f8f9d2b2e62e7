use Rattle.std.proofs.Common.{◌≡◌, drop}
use Rattle.syntax.specs.Views.{exprs_of}
use Rattle.syntax.specs.Typing.{first_unmet, AreNumbers}
use Rattle.types.specs.inner.Known.{known_in}
use Rattle.types.proofs.expr.+check.Given as goal

abbrev pub invariant-check_numbers-each : goal.invariant-check_numbers-each
invariant-check_numbers-each g l = first_unmet (AreNumbers (known_in l.names) (exprs_of (drop l.one-index l.all))) ≡ first_unmet (AreNumbers (known_in l.names) (exprs_of l.all))
