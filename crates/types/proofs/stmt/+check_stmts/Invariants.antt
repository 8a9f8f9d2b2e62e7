use Rattle.std.proofs.Common.{◌≡◌, ◌≤◌, ℕ, List, drop}
use Rattle.syntax.specs.Views.{stmts_of}
use Rattle.syntax.specs.Typing.{first_unmet, AreTypedStmts}
use Rattle.types.specs.inner.Known.{known_in, count_in, AreDeclared, Grows}
use Rattle.types.proofs.stmt.+check_stmts.Given as goal

abbrev pub invariant-check_stmts-each : goal.invariant-check_stmts-each
invariant-check_stmts-each g l =
    (count_in l.initial.names ≤ count_in l.names)
    × Grows l.initial.names l.names
    × ((declared : List (List ℕ)) → AreDeclared l.context.start l.initial.names declared → (here : List (List ℕ)) × AreDeclared l.context.start l.names here × (first_unmet (AreTypedStmts l.context.gives (stmts_of (drop l.one-index l.all)) (known_in l.names) here l.context.looping) ≡ first_unmet (AreTypedStmts l.context.gives (stmts_of l.all) (known_in l.initial.names) declared l.context.looping)))
