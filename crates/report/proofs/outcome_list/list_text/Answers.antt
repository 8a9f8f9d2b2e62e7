use Rattle.std.proofs.Common.{◌∙◌, ◌++◌, ap, map}
use Rattle.std.specs.Prelude.{codes, flat_map}
use Rattle.report.specs.OutcomeList.{count_line, order_text}
use Rattle.report.specs.Views.{reported_of}
use Rattle.report.proofs.OutcomeList.{list_is}
use Rattle.report.proofs.outcome_list.list_text.Goals as goal

pub returns : goal.returns
returns g c =
    let first = c.in_ok-push_orders.ensures ∙ ap (λ xs. xs ++ flat_map (order_text (codes "== outcome --order ")) (map reported_of c.args.outcomes.now)) c.new-list.ensures.items in
    list_is reported_of (order_text (codes "== outcome --order ")) (order_text (codes "== stuck --order ")) (λ n m. count_line n m c.args.states c.args.threads c.args.end) c.args.outcomes.now c.args.stuck.now _ _ _ first c.in_ok-push_orders-2.ensures c.in_ok-push_count.ensures
