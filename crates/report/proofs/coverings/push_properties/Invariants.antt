use Rattle.std.proofs.Common.{◌≡◌, ◌++◌, map, drop}
use Rattle.std.specs.Prelude.{flat_map}
use Rattle.report.specs.Coverings.{covered_text}
use Rattle.report.specs.CoveringViews.{covering_of}
use Rattle.report.proofs.coverings.push_properties.Given as goal

-- what is written and what is to come make up the whole
abbrev pub invariant-properties : goal.invariant-properties
invariant-properties g l =
    l.list.items ++ flat_map covered_text (map covering_of (drop l.one-index l.properties))
    ≡ l.initial.list.items ++ flat_map covered_text (map covering_of l.properties)
