use Rattle.std.proofs.Common.{ap, append-nil, sym, [], map}
use Rattle.syntax.specs.Names.{shared_by}
use Rattle.syntax.specs.Views.{item_of, global_of}
use Rattle.report.specs.Views.{shown_of}
use Rattle.serving.proofs.Steps.{next_item}
use Rattle.serving.proofs.globals.push_items.Goals as goal
use Rattle.serving.proofs.globals.push_items.Goals.{in-Globals+in_ok-rest, in_default}

pub items-preserved : goal.items-preserved
items-preserved g c = elim c.match-item.branch [
  | in-Globals+in_ok-rest w ↦
      rw (w.shown-is, w.rest-is, w.in_ok-rest.ensures.rest, w.as_slice.ensures) (next_item item_of c.args.items.now c.items.item-index c.item-item.result (map global_of w.in-Globals.globals) (map shown_of c.items.shown) (map shown_of w.push_globals.new.shown) _ c.items.rest.now c.item-item.is c.items-test.true (ap (λ x. shared_by (item_of x)) w.in-Globals.is) c.items.invariant (rw w.as_slice.ensures at w.in_ok-rest.ensures.shown))
  | in_default w ↦
      rw (w.shown-is, w.rest-is) (next_item item_of c.args.items.now c.items.item-index c.item-item.result [] (map shown_of c.items.shown) (map shown_of c.items.shown) _ c.items.rest.now c.item-item.is c.items-test.true (ap (λ x. shared_by (item_of x)) w.in_default.is) c.items.invariant (sym (append-nil (map shown_of c.items.shown))))
]
