use Rattle.std.proofs.Common.{◌≡◌, ◌≤◌, ℕ, List, map, drop}
use Rattle.syntax.specs.Views.{declarator_of}
use Rattle.syntax.specs.Typing.{knows}
use Rattle.syntax.specs.Typing.{first_unmet, AreTypedDeclarators}
use Rattle.types.specs.inner.Known.{known_in, count_in, declared_by, AreDeclared, Grows}
use Rattle.types.proofs.scope.check_declarators.Given as goal

abbrev pub invariant-each : goal.invariant-each
invariant-each g l =
    (count_in l.initial.names ≤ count_in l.names)
    × Grows l.initial.names l.names
    × (knows l.ty (map declarator_of (drop l.one-index l.all)) (known_in l.names) ≡ knows l.ty (map declarator_of l.all) (known_in l.initial.names))
    × ((declared : List (List ℕ)) → AreDeclared l.start l.initial.names declared → (here : List (List ℕ)) × AreDeclared l.start l.names here × (declared_by (map declarator_of (drop l.one-index l.all)) here ≡ declared_by (map declarator_of l.all) declared) × (first_unmet (AreTypedDeclarators (known_in l.names) here l.ty (map declarator_of (drop l.one-index l.all))) ≡ first_unmet (AreTypedDeclarators (known_in l.initial.names) declared l.ty (map declarator_of l.all))))
