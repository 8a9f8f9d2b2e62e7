use Rattle.std.proofs.Common.{◌≡◌, map, drop}
use Rattle.std.specs.List.{flat_map}
use Rattle.syntax.specs.Tree.{Program}
use Rattle.syntax.specs.Views.{item_of}
use Rattle.syntax.specs.Typing.{first_unmet}
use Rattle.safety.specs.Faults.{item_demands}
use Rattle.safety.specs.Sets.{set_of}
use Rattle.safety.specs.inner.Rest.{rest_of, Claims}
use Rattle.safety.proofs.demands.fault_of_items.Given as goal

abbrev pub invariant-each : goal.invariant-each
invariant-each g l = (p : Program) → Claims p (set_of l.claims) → first_unmet (flat_map (item_demands p (rest_of (set_of l.not_safe)) (set_of l.outer)) (map item_of (drop l.item-index l.items))) ≡ first_unmet (flat_map (item_demands p (rest_of (set_of l.not_safe)) (set_of l.outer)) (map item_of l.items))
