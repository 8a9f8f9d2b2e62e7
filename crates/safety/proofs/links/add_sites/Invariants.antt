use Rattle.std.proofs.Common.{◌≡◌, ◌++◌, drop}
use Rattle.std.specs.List.{flat_map}
use Rattle.safety.specs.Views.{sites_of_own}
use Rattle.safety.specs.Sets.{links_of}
use Rattle.safety.proofs.links.add_sites.Given as goal

abbrev pub invariant-each : goal.invariant-each
invariant-each g l =
    links_of l.links ++ flat_map (g.R.LinkRule.links_at l.caller) (sites_of_own (drop l.site-index l.sites))
    ≡ links_of l.initial.links ++ flat_map (g.R.LinkRule.links_at l.caller) (sites_of_own l.sites)
