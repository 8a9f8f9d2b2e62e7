use Rattle.std.proofs.Common.{◌≡◌, None, [], map, take, drop}
use Rattle.syntax.specs.Views.{item_of}
use Rattle.syntax.specs.Typing.{first_unmet, AreTypedItems, AreDefined}
use Rattle.types.proofs.Items.{AllDefined}
use Rattle.types.proofs.unit.check_defined.Given as goal

abbrev pub invariant-each : goal.invariant-each
invariant-each g l =
    (None ≡ first_unmet (AreTypedItems (map item_of (take l.item-index l.items)) (map item_of (drop l.item-index l.items))))
    × AllDefined (map item_of l.items) (map item_of (take l.item-index l.items))
    × (first_unmet (AreDefined (map item_of l.items) (map item_of (take l.item-index l.items)) (map item_of (drop l.item-index l.items))) ≡ first_unmet (AreDefined (map item_of l.items) [] (map item_of l.items)))
