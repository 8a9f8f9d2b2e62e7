use Rattle.std.proofs.Common.{◌≡◌, map, drop}
use Rattle.syntax.specs.Views.{item_of}
use Rattle.lower.specs.Nested.{items_too_deep}
use Rattle.lower.proofs.deep.first_too_deep.Given as goal

abbrev pub invariant-each : goal.invariant-each
invariant-each g l = items_too_deep (map item_of (drop l.item-index l.items)) l.count ≡ items_too_deep (map item_of l.items) l.count
