use Rattle.std.proofs.Common.{◌≡◌, ◌+◌, ◌≤◌, length, map, drop}
use Rattle.syntax.specs.Names.{initial_from}
use Rattle.syntax.specs.Views.{global_of}
use Rattle.syntax.specs.declared.limits.TheConstants.{MOST_CELLS}
use Rattle.bytecode.proofs.valid.count_cells.Given as goal

abbrev pub invariant-each : goal.invariant-each
invariant-each g l = record {
  sums : l.count + length (initial_from (map global_of (drop l.g-index l.globals))) ≡ length (initial_from (map global_of l.globals));
  few : l.count ≤ MOST_CELLS;
}
