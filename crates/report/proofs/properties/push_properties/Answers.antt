use Rattle.report.specs.Properties.{property_text}
use Rattle.report.specs.PropertyViews.{property_of}
use Rattle.report.proofs.OutcomeList.{all_pushed, next_outcome}
use Rattle.report.proofs.properties.push_properties.Goals as goal

pub properties-preserved : goal.properties-preserved
properties-preserved g c = next_outcome property_of (property_text c.args.threads c.args.end) c.args.properties.now c.properties.one-index c.one-item.result c.properties.list.items _ _ c.one-item.is c.properties-test.true c.properties.invariant c.in_ok-push_property.ensures

pub returns : goal.returns
returns g c = all_pushed property_of (property_text c.args.threads c.args.end) c.args.properties.now c.properties.one-index c.properties.list.items _ c.properties-test.false c.properties.invariant
