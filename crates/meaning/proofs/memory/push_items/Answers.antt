use Rattle.std.proofs.Common.{◌++◌, map, sym, ap, ◌∙◌, append-nil}
use Rattle.syntax.specs.Views.{item_of, global_of}
use Rattle.syntax.specs.Names.{globals, shared_by, initial_from}
use Rattle.meaning.proofs.Memories.{next, initial_append}
use Rattle.meaning.proofs.memory.push_items.Goals as goal
use Rattle.meaning.proofs.memory.push_items.Goals.{in-Globals+in_ok-push_globals-in-Globals, in-Function}

pub items-preserved : goal.items-preserved
items-preserved g c =
    let items = c.args.items.now in
    let words = c.items.memory.items in
    let adds = next (λ is. initial_from (globals (map item_of is))) (λ i. initial_from (shared_by (item_of i))) (λ x xs. initial_append (shared_by (item_of x)) (globals (map item_of xs))) items c.items.item-index c.item-item.result words in
    elim c.match-item.branch [
      | in-Globals+in_ok-push_globals-in-Globals w ↦
          adds c.match-item.memory.items _ c.items-test.true c.item-item.is
          (ap (λ m. m.items) w.memory-is ∙ w.in_ok-push_globals-in-Globals.ensures ∙ ap (λ xs. words ++ initial_from (map global_of xs)) w.as_slice.ensures ∙ ap (λ x. words ++ initial_from (shared_by (item_of x))) (sym w.in-Globals.is))
          c.items.invariant
      | in-Function w ↦
          adds c.match-item.memory.items _ c.items-test.true c.item-item.is
          (ap (λ m. m.items) w.memory-is ∙ sym (append-nil words) ∙ ap (λ x. words ++ initial_from (shared_by (item_of x))) (sym w.in-Function.is))
          c.items.invariant
    ]
