use Rattle.std.proofs.Common.{◌≡◌, ◌++◌, map, drop}
use Rattle.syntax.specs.Names.{globals}
use Rattle.syntax.specs.Views.{item_of}
use Rattle.traces.specs.Names.{named_global}
use Rattle.traces.specs.Views.{named_of}
use Rattle.traces.proofs.names.push_items.Given as goal

-- the names so far and those to come make up the whole
abbrev pub invariant-items : goal.invariant-items
invariant-items g l =
    map named_of l.names ++ map named_global (globals (map item_of (drop l.item-index l.items)))
    ≡ map named_of l.initial.names ++ map named_global (globals (map item_of l.items))
