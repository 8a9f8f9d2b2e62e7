use Rattle.std.proofs.Common.{◌≡◌, ◌++◌, map, drop}
use Rattle.syntax.specs.Views.{item_of}
use Rattle.syntax.specs.Names.{globals}
use Rattle.report.specs.Views.{shown_of}
use Rattle.serving.specs.Shows.{shown_globals}
use Rattle.serving.proofs.globals.push_items.Given as goal

-- the globals shown and the remaining ones make up the whole
abbrev pub invariant-items : goal.invariant-items
invariant-items g l =
    map shown_of l.shown ++ shown_globals (globals (map item_of (drop l.item-index l.items))) l.rest ≡ map shown_of l.initial.shown ++ shown_globals (globals (map item_of l.items)) l.words
