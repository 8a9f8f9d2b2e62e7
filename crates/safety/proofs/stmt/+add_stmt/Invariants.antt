use Rattle.std.proofs.Common.{◌≡◌, ◌++◌, ℕ, List, drop}
use Rattle.syntax.specs.Views.{stmts_of}
use Rattle.safety.specs.Sites.{stmts_sites}
use Rattle.safety.specs.Views.{sites_of_own}
use Rattle.safety.specs.inner.Known.{names_in, around_in}
use Rattle.safety.proofs.stmt.+add_stmt.Given as goal

abbrev pub invariant-add_block-each : goal.invariant-add_block-each
invariant-add_block-each g l =
    (sites_of_own l.sites ++ stmts_sites (stmts_of (drop l.one-index l.all)) (around_in l.locals l.surroundings) ≡ sites_of_own l.initial.sites ++ stmts_sites (stmts_of l.all) (around_in l.initial.locals l.surroundings))
    × ((more : List (List ℕ)) × (names_in l.locals ≡ names_in l.initial.locals ++ more))
