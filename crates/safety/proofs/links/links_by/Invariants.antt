use Rattle.std.proofs.Common.{◌≡◌, ◌++◌, map, drop}
use Rattle.syntax.specs.Views.{item_of}
use Rattle.safety.specs.Sets.{links_of}
use Rattle.safety.specs.SiteLinks.{links_by}
use Rattle.safety.proofs.links.links_by.Given as goal

abbrev pub invariant-each : goal.invariant-each
invariant-each g l =
    links_of l.links ++ links_by g.R.LinkRule.declares g.R.LinkRule.links_at (map item_of (drop l.item-index l.items))
    ≡ links_by g.R.LinkRule.declares g.R.LinkRule.links_at (map item_of l.items)
