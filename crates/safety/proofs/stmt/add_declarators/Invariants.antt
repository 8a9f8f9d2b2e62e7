use Rattle.std.proofs.Common.{◌≡◌, ◌++◌, map, drop}
use Rattle.syntax.specs.Views.{declarator_of}
use Rattle.safety.specs.Sites.{declarator_sites}
use Rattle.safety.specs.Views.{sites_of_own}
use Rattle.safety.specs.inner.Known.{names_in, around_in}
use Rattle.safety.proofs.stmt.add_declarators.Given as goal

abbrev pub invariant-each : goal.invariant-each
invariant-each g l =
    (sites_of_own l.sites ++ declarator_sites (map declarator_of (drop l.one-index l.all)) (around_in l.locals l.surroundings) ≡ sites_of_own l.initial.sites ++ declarator_sites (map declarator_of l.all) (around_in l.initial.locals l.surroundings))
    × (names_in l.locals ++ map (λ d. d.name.text) (map declarator_of (drop l.one-index l.all)) ≡ names_in l.initial.locals ++ map (λ d. d.name.text) (map declarator_of l.all))
