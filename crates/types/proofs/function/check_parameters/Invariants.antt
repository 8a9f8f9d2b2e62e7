use Rattle.std.proofs.Common.{◌≡◌, ◌≤◌, [], ℕ, List, map, drop}
use Rattle.syntax.specs.Views.{parameter_of}
use Rattle.syntax.specs.Typing.{with_parameters}
use Rattle.syntax.specs.Typing.{first_unmet, AreDistinct}
use Rattle.types.specs.inner.Known.{known_in, count_in, AreDeclared, Grows}
use Rattle.types.proofs.Parameters.{parameters_by}
use Rattle.types.proofs.function.check_parameters.Given as goal

abbrev pub invariant-each : goal.invariant-each
invariant-each g l =
    (count_in l.initial.names ≤ count_in l.names)
    × Grows l.initial.names l.names
    × (with_parameters (map parameter_of (drop l.one-index l.all)) (known_in l.names) ≡ with_parameters (map parameter_of l.all) (known_in l.initial.names))
    × (l.start ≡ count_in l.initial.names)
    × ((here : List (List ℕ)) × AreDeclared l.start l.names here × (parameters_by (map parameter_of (drop l.one-index l.all)) here ≡ parameters_by (map parameter_of l.all) []) × (first_unmet (AreDistinct here (map parameter_of (drop l.one-index l.all))) ≡ first_unmet (AreDistinct [] (map parameter_of l.all))))
