use Rattle.std.proofs.Common.{◌∙◌, ◌++◌, ap, map}
use Rattle.std.specs.Prelude.{codes, flat_map}
use Rattle.report.specs.OutcomeList.{order_text}
use Rattle.report.specs.Properties.{property_text}
use Rattle.report.specs.PropertyViews.{property_of}
use Rattle.report.specs.Views.{reported_of}
use Rattle.report.proofs.properties.properties_text.Goals as goal

pub returns : goal.returns
returns g c =
    let told = flat_map (property_text c.args.threads c.args.end) (map property_of c.args.properties.now) in
    let first = c.in_ok-push_properties.ensures ∙ ap (λ xs. xs ++ told) c.new-list.ensures.items in
    c.in_ok-push_orders.ensures ∙ ap (λ xs. xs ++ flat_map (order_text (codes "== stuck --order ")) (map reported_of c.args.stuck.now)) first
