use Rattle.std.proofs.Common.{◌≡◌, ◌∙◌, ◌+◌, ◌++◌, ◌∷◌, Some, ap, arith, bytes_eq, drop, if◌then◌else◌, map, sym}
use Rattle.std.proofs.lemmas.List.{at_drop_more}
use Rattle.std.specs.Option.{option_or}
use Rattle.syntax.specs.Names.{cells, global_from}
use Rattle.syntax.specs.Views.{global_of}
use Rattle.program_tables.specs.inner.Tables.{total_cells, shared_at}
use Rattle.program_tables.proofs.globals.add_globals.Goals as goal

pub globals-preserved : goal.globals-preserved
globals-preserved g c =
    let this = global_of c.g-item.result in
    let further = map global_of (drop (c.globals.g-index + 1) c.args.gs.now) in
    let left : map global_of (drop c.globals.g-index c.args.gs.now) ≡ this ∷ further =
    at_drop_more (map global_of) c.args.gs.now c.globals.g-index c.g-item.result c.globals-test.true
    ∙ ap (λ x. global_of x ∷ further) (sym c.g-item.is) in
    let count = c.cell_count-cell.ensures in
    record {
      value = λ x rest.
          c.in_ok-add_global.ensures x (global_from (c.globals.cell + c.cell_count-cell.result) (further ++ rest) x)
          ∙ ap (λ n. option_or (shared_at c.globals.table x) (if bytes_eq this.name.text x then Some (record { global = this; cell = c.globals.cell }) else global_from (c.globals.cell + n) (further ++ rest) x)) count
          ∙ ap (λ ys. option_or (shared_at c.globals.table x) (global_from c.globals.cell (ys ++ rest) x)) (sym left)
          ∙ c.globals.invariant.value x rest;
      cells =
          let all : total_cells (map global_of (drop c.globals.g-index c.args.gs.now)) ≡ cells this + total_cells further = ap total_cells left in
          let before = c.globals.invariant.cells in
          omega (arith, all, before, count);
    }
