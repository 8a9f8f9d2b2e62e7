use Rattle.std.proofs.Common.{◌≡◌, ◌+◌, ◌++◌, take, vec_len, vec_capacity}
use Rattle.frames.proofs.lay.refill.Given as goal

abbrev pub invariant-saved : goal.invariant-saved
invariant-saved g l = record {
  items : l.registers.items ≡ l.initial.registers.items ++ take l.word-index l.saved;
  long : vec_len l.registers ≡ vec_len l.initial.registers + l.word-index;
  capacity : vec_capacity l.registers ≡ vec_capacity l.initial.registers;
}
