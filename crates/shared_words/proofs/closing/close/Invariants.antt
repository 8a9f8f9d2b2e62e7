use Rattle.std.proofs.Common.{◌≡◌, take, drop, vec_len}
use Rattle.std.specs.Vec.{vec_capacity}
use Rattle.std.specs.Slots.{slots_items}
use Rattle.shared_words.proofs.closing.close.Given as goal

abbrev pub invariant-cells : goal.invariant-cells
invariant-cells g l = record {
  cells : l.cells.items ≡ take l.cell (drop 1 (slots_items l.closed.words));
  count : vec_len l.cells ≡ l.cell;
  room : vec_capacity l.cells ≡ vec_capacity l.initial.cells;
}
