use Rattle.report.specs.Coverings.{covered_text}
use Rattle.report.specs.CoveringViews.{covering_of}
use Rattle.report.proofs.OutcomeList.{all_pushed, next_outcome}
use Rattle.report.proofs.coverings.push_properties.Goals as goal

pub properties-preserved : goal.properties-preserved
properties-preserved g c = next_outcome covering_of covered_text c.args.properties.now c.properties.one-index c.one-item.result c.properties.list.items _ _ c.one-item.is c.properties-test.true c.properties.invariant c.in_ok-push_property.ensures

pub returns : goal.returns
returns g c = all_pushed covering_of covered_text c.args.properties.now c.properties.one-index c.properties.list.items _ c.properties-test.false c.properties.invariant
