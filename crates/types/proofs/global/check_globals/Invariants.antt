use Rattle.std.proofs.Common.{◌≡◌, ◌≤◌, ◌+◌, ◌++◌, ◌∷◌, [], map, take, drop, sum_by}
use Rattle.syntax.specs.Tree.{Shares}
use Rattle.syntax.specs.Views.{global_of, item_of}
use Rattle.syntax.specs.Names.{cells}
use Rattle.syntax.specs.Types.{file_scope}
use Rattle.syntax.specs.Typing.{first_unmet, AreTypedGlobals}
use Rattle.types.specs.inner.Known.{known_in, count_in}
use Rattle.types.proofs.global.check_globals.Given as goal

abbrev pub invariant-each : goal.invariant-each
invariant-each g l =
    (count_in l.names ≡ 0)
    × (known_in l.names ≡ file_scope (map item_of l.earlier ++ Shares (map global_of (take l.i l.all)) ∷ []))
    × (l.taken ≡ l.initial.taken + sum_by cells (map global_of (take l.i l.all)))
    × (l.taken ≤ 4096)
    × (first_unmet (AreTypedGlobals (map item_of l.earlier) (map global_of (take l.i l.all)) l.taken (map global_of (drop l.i l.all))) ≡ first_unmet (AreTypedGlobals (map item_of l.earlier) [] l.initial.taken (map global_of l.all)))
