use Rattle.std.proofs.Common.{◌≡◌, ◌++◌, map, drop}
use Rattle.syntax.specs.Views.{item_of}
use Rattle.syntax.specs.Names.{globals, initial_from}
use Rattle.meaning.proofs.memory.push_items.Given as goal

abbrev pub invariant-items : goal.invariant-items
invariant-items g l = l.memory.items ++ initial_from (globals (map item_of (drop l.item-index l.items))) ≡ l.initial.memory.items ++ initial_from (globals (map item_of l.items))
