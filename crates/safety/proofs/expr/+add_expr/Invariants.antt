use Rattle.std.proofs.Common.{◌≡◌, ◌++◌, drop}
use Rattle.syntax.specs.Views.{exprs_of}
use Rattle.safety.specs.Sites.{exprs_sites}
use Rattle.safety.specs.Views.{sites_of_own}
use Rattle.safety.specs.inner.Known.{around_in}
use Rattle.safety.proofs.expr.+add_expr.Given as goal

abbrev pub invariant-add_exprs-each : goal.invariant-add_exprs-each
invariant-add_exprs-each g l = sites_of_own l.sites ++ exprs_sites (exprs_of (drop l.one-index l.all)) (around_in l.locals l.surroundings) ≡ sites_of_own l.initial.sites ++ exprs_sites (exprs_of l.all) (around_in l.locals l.surroundings)
