use Rattle.std.proofs.Common.{◌≡◌, [], map, take, drop}
use Rattle.syntax.specs.Views.{item_of}
use Rattle.syntax.specs.Typing.{first_unmet, AreTypedItems}
use Rattle.types.specs.inner.Found.{IsFound}
use Rattle.types.proofs.unit.check_items.Given as goal

abbrev pub invariant-each : goal.invariant-each
invariant-each g l =
    IsFound l.found (map item_of (take l.i l.items))
    × (first_unmet (AreTypedItems (map item_of (take l.i l.items)) (map item_of (drop l.i l.items))) ≡ first_unmet (AreTypedItems [] (map item_of l.items)))
