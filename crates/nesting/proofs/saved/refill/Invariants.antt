use Rattle.std.proofs.Common.{◌≡◌, take, vec_len, vec_capacity}
use Rattle.nesting.proofs.saved.refill.Given as goal

abbrev pub invariant-loop-register : goal.invariant-loop-register
invariant-loop-register g l = (l.registers.items ≡ take l.register-index l.from) × (vec_len l.registers ≡ l.register-index) × (vec_capacity l.registers ≡ vec_capacity l.initial.registers)
