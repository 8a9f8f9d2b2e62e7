use Rattle.std.proofs.Common.{◌≡◌, ◌+◌, ◌++◌, replicate, vec_len, vec_capacity}
use Rattle.frames.proofs.lay.push_zeros.Given as goal

abbrev pub invariant-zeros : goal.invariant-zeros
invariant-zeros g l = record {
  items : l.registers.items ≡ l.initial.registers.items ++ replicate l.counter 0;
  long : vec_len l.registers ≡ vec_len l.initial.registers + l.counter;
  capacity : vec_capacity l.registers ≡ vec_capacity l.initial.registers;
}
