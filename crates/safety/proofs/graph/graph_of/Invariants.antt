use Rattle.std.proofs.Common.{take}
use Rattle.name_tables.specs.Named.{first}
use Rattle.name_tables.specs.Known.{entries_in}
use Rattle.safety.specs.Sets.{links_of}
use Rattle.safety.specs.inner.Graphs.{IsNumbered, HasLinks}
use Rattle.safety.proofs.graph.graph_of.Given as goal

abbrev pub invariant-each : goal.invariant-each
invariant-each g l =
    IsNumbered (first (entries_in l.graph.numbers)) l.graph.callers.items
    × HasLinks (links_of (take l.link-index l.links)) (first (entries_in l.graph.numbers)) l.graph.callers.items
