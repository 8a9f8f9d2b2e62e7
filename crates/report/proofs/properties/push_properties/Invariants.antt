use Rattle.std.proofs.Common.{◌≡◌, ◌++◌, map, drop}
use Rattle.std.specs.Prelude.{flat_map}
use Rattle.report.specs.Properties.{property_text}
use Rattle.report.specs.PropertyViews.{property_of}
use Rattle.report.proofs.properties.push_properties.Given as goal

-- what is written and what is to come make up the whole
abbrev pub invariant-properties : goal.invariant-properties
invariant-properties g l =
    l.list.items ++ flat_map (property_text l.threads l.end) (map property_of (drop l.one-index l.properties))
    ≡ l.initial.list.items ++ flat_map (property_text l.threads l.end) (map property_of l.properties)
