use Rattle.std.proofs.Common.{◌≡◌, map, drop}
use Rattle.syntax.specs.Views.{declarator_of}
use Rattle.lower.specs.Nested.{declarators_too_deep}
use Rattle.lower.proofs.deep.deep_declarators.Given as goal

abbrev pub invariant-each : goal.invariant-each
invariant-each g l = declarators_too_deep (map declarator_of (drop l.one-index l.all)) l.count ≡ declarators_too_deep (map declarator_of l.all) l.count
