use Rattle.std.proofs.Common.{◌∙◌, ◌+◌, ◌++◌, map, drop, sym, ap, arith, ℕ, List}
use Rattle.std.specs.Option.{option_or}
use Rattle.std.proofs.lemmas.List.{at_drop_all}
use Rattle.syntax.specs.Names.{globals, global_from, shared_by}
use Rattle.syntax.specs.Views.{item_of, global_of}
use Rattle.program_tables.specs.inner.Tables.{total_cells, shared_at}
use Rattle.program_tables.proofs.Placing.{or_none}
use Rattle.syntax.proofs.typing.Items.{items_more}
use Rattle.program_tables.proofs.CellsFit.{total_append}
use Rattle.program_tables.proofs.globals.place_globals.Goals as goal
use Rattle.program_tables.proofs.globals.place_globals.Goals.{in-Function, in-Globals+in_ok-cell-in-Globals}

pub add_globals-requires : goal.add_globals-requires
add_globals-requires g c =
    let xs = c.args.items.now in
    let item = c.item-item.result in
    let rest = globals (map item_of (drop (c.items.item-index + 1) xs)) in
    let more = items_more (λ items. total_cells (globals items)) xs c.items.item-index item c.items-test.true c.item-item.is in
    let same = ap (λ gs. total_cells (map global_of gs)) c.as_slice.ensures ∙ sym (ap (λ i. total_cells (shared_by (item_of i))) c.in-Globals.is) in
    omega (arith, c.items.invariant.cells, more, total_append (shared_by (item_of item)) rest, same, c.requires)

pub items-preserved : goal.items-preserved
items-preserved g c =
    let xs = c.args.items.now in
    let item = c.item-item.result in
    let old = c.items.table in
    let cell = c.items.cell in
    let rest = globals (map item_of (drop (c.items.item-index + 1) xs)) in
    let more = items_more (λ items. total_cells (globals items)) xs c.items.item-index item c.items-test.true c.item-item.is in
    let append = total_append (shared_by (item_of item)) rest in
    let next = (λ (x : List ℕ). sym (items_more (λ items. option_or (shared_at old x) (global_from cell (globals items) x)) xs c.items.item-index item c.items-test.true c.item-item.is) ∙ c.items.invariant.value x) in
    elim c.match-item.branch [
      | in-Function w ↦ (
          let none = ap (λ i. total_cells (shared_by (item_of i))) w.in-Function.is in
          let cell-is = w.cell-is in record {
            value = λ x.
                ap (λ t. option_or (shared_at t x) (global_from c.match-item.cell rest x)) w.table-is ∙ ap (λ n. option_or (shared_at old x) (global_from n rest x)) w.cell-is
                ∙ sym (ap (λ i. option_or (shared_at old x) (global_from cell (shared_by (item_of i) ++ rest) x)) w.in-Function.is) ∙ next x;
            cells = omega (arith, cell-is, none, more, append, c.items.invariant.cells);
          })
      | in-Globals+in_ok-cell-in-Globals w ↦ (
          let same = ap (λ gs. total_cells (map global_of gs)) w.as_slice.ensures ∙ sym (ap (λ i. total_cells (shared_by (item_of i))) w.in-Globals.is) in
          let ok = w.in_ok-cell-in-Globals.ensures in
          let cell-is = w.cell-is in record {
            value = λ x.
                ap (λ t. option_or (shared_at t x) (global_from c.match-item.cell rest x)) w.table-is ∙ ap (λ n. option_or (shared_at w.add_globals.new.table x) (global_from n rest x)) w.cell-is ∙ ok.value x rest
                ∙ ap (λ gs. option_or (shared_at old x) (global_from cell (map global_of gs ++ rest) x)) w.as_slice.ensures
                ∙ sym (ap (λ i. option_or (shared_at old x) (global_from cell (shared_by (item_of i) ++ rest) x)) w.in-Globals.is) ∙ next x;
            cells = omega (arith, cell-is, ok.next, same, more, append, c.items.invariant.cells);
          })
    ]

pub returns : goal.returns
returns g c = λ x.
    sym (or_none (shared_at c.items.table x))
    ∙ sym (at_drop_all (λ items. option_or (shared_at c.items.table x) (global_from c.items.cell (globals (map item_of items)) x)) c.args.items.now c.items.item-index c.items-test.false)
    ∙ c.items.invariant.value x
