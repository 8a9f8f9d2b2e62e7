use Rattle.std.proofs.Common.{◌≡◌, drop, map}
use Rattle.syntax.specs.Names.{definition_of}
use Rattle.syntax.specs.Views.{item_of}
use Rattle.serving.proofs.askable.why_not_named.Given as goal

-- the definition is among the remaining items
abbrev pub invariant-items : goal.invariant-items
invariant-items g l = definition_of (map item_of (drop l.item-index l.item-items)) l.name ≡ definition_of (map item_of l.item-items) l.name
