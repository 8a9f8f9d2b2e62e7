use Rattle.std.proofs.Common.{◌∙◌, ap}
use Rattle.pages.specs.Content.{property_data}
use Rattle.pages.specs.Data.{property_object}
use Rattle.pages.proofs.Writing.{next_listed, same_tokens}
use Rattle.pages.proofs.data.put_properties.Goals as goal

pub properties-preserved : goal.properties-preserved
properties-preserved g c = (
  c.in_ok-put_property.ensures.before ∙ c.properties.invariant.0,
  next_listed property_object property_data c.args.properties.now c.properties.property-index c.property-item.result c.properties.to c.put_property.new.to _ c.properties-test.true c.properties.invariant.1
      (same_tokens _ _ (ap (λ x. property_object (property_data x)) c.property-item.is) c.in_ok-put_property.ensures),
)
