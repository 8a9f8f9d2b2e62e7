use Rattle.std.proofs.Common.{◌≡◌, ◌+◌, ◌++◌, map, drop, take, slice_index, vec_len, vec_capacity}
use Rattle.frames.proofs.lay.push_arguments.Given as goal

abbrev pub invariant-each : goal.invariant-each
invariant-each g l = record {
  items : l.registers.items ≡ l.initial.registers.items ++ map (λ r. slice_index (drop l.base l.initial.registers.items) r) (take l.arg-index l.args);
  long : vec_len l.registers ≡ vec_len l.initial.registers + l.arg-index;
  capacity : vec_capacity l.registers ≡ vec_capacity l.initial.registers;
}
