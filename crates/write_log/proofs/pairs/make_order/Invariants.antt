use Rattle.std.proofs.Common.{◌≡◌, ◌≤◌, ◌<◌, ◌-◌, ℕ, length, get_or, vec_len, vec_capacity}
use Rattle.write_log.proofs.pairs.make_order.Given as goal

-- the entries that are made so far
abbrev pub invariant-loop-order : goal.invariant-loop-order
invariant-loop-order g l = record {
  within : vec_len l.order ≤ length l.list;
  entries : (k : ℕ) → k < vec_len l.order → get_or l.order.items k (0, 0) ≡ ((get_or l.list k (0, 0)).0, k);
  capacity : vec_capacity l.order ≡ vec_capacity l.fn.order;
}

abbrev pub decreases-loop-order : goal.decreases-loop-order
decreases-loop-order g l = length l.list - vec_len l.order
