use Rattle.std.proofs.Common.{◌≡◌, codes, map, drop}
use Rattle.syntax.specs.Views.{item_of}
use Rattle.syntax.specs.Typing.{first_unmet}
use Rattle.safety.specs.Sites.{sites_of}
use Rattle.safety.specs.Sets.{set_of}
use Rattle.separation.specs.Touching.{separation_demands}
use Rattle.separation.proofs.demands.fault_of_items.Given as goal

abbrev pub invariant-each : goal.invariant-each
invariant-each g l = first_unmet (separation_demands (set_of l.touching) (sites_of (map item_of (drop l.item-index l.items)) (codes "worker"))) ≡ first_unmet (separation_demands (set_of l.touching) (sites_of (map item_of l.items) (codes "worker")))
