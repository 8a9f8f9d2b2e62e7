use Rattle.std.proofs.Common.{◌≡◌, ◌++◌, drop, map}
use Rattle.std.specs.Prelude.{flat_map}
use Rattle.pages.specs.Content.{property_data}
use Rattle.pages.specs.Data.{property_object}
use Rattle.pages.proofs.data.put_properties.Given as goal

-- what is written and what is to come make up the whole
abbrev pub invariant-properties : goal.invariant-properties
invariant-properties g l =
    (l.to.before ≡ l.initial.to.before) × (l.to.tokens ++ flat_map property_object (map property_data (drop l.property-index l.properties))
    ≡ l.initial.to.tokens ++ flat_map property_object (map property_data l.properties))
