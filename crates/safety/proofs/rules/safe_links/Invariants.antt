use Rattle.std.proofs.Common.{◌≡◌, ◌++◌, map, drop}
use Rattle.syntax.specs.Views.{item_of}
use Rattle.safety.specs.Sets.{links_of}
use Rattle.safety.specs.inner.UnsafeLinks.{safe_links}
use Rattle.safety.proofs.rules.safe_links.Given as goal

abbrev pub invariant-each : goal.invariant-each
invariant-each g l = links_of l.links ++ safe_links (map item_of (drop l.item-index l.items)) ≡ safe_links (map item_of l.items)
