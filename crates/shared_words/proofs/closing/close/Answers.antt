use Rattle.std.proofs.Common.{◌≤◌, ◌+◌, ◌∙◌, List, ℕ, ap, sym, subst, rules, arith, length, take, drop}
use Rattle.std.specs.Slots.{slots_items, slots_counts}
use Rattle.shared_words.proofs.Closes.{leaves, next_cell}
use Rattle.shared_words.proofs.closing.close.Goals as goal

pub cells-preserved : goal.cells-preserved
cells-preserved g c = record {
  cells = c.push_reserved.ensures.items ∙ next_cell c.cells.cell (slots_items c.close_with-closed.result.words) c.cells.cells.items c.word.result c.cells.invariant.cells c.word.ensures;
  count = search rules;
  room = search rules;
}

pub returns : goal.returns
returns g c =
    let end = c.close_with-closed.ensures.values.2 in
    let s = end.0 in
    let long : length (slots_items c.close_with-closed.result.words) ≤ c.cells.cell + 1 = (let n = (slots_counts c.close_with-closed.result.words).0 in let m = c.close_with-closed.ensures.counts.0 in let w = c.requires.words in let t = c.cells-test.false in omega arith) in
    leaves c.args.table.shared.key c.args.seat.id c.args.seat.me c.cells.cell s.words s.views c.cells.cells.items end.1.0 end.1.1
    (subst (λ (ws : List ℕ). length ws ≤ c.cells.cell + 1) (sym end.2) long)
    (c.cells.invariant.cells ∙ ap (λ (ws : List ℕ). take c.cells.cell (drop 1 ws)) (sym end.2))

pub cells-init : goal.cells-init
cells-init g c = search rules
