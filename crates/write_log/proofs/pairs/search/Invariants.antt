use Rattle.std.proofs.Common.{◌<◌, ◌≤◌, ◌-◌, ◌+◌, ◌^◌, ℕ, length, get_or}
use Rattle.write_log.proofs.pairs.search.Given as goal

-- the cell stands in from..to, if anywhere, and so many looks are left as that has digits
abbrev pub invariant-loop-from : goal.invariant-loop-from
invariant-loop-from g l = record {
  rises : l.from ≤ l.to;
  within : l.to ≤ length l.order;
  below : (j : ℕ) → j < l.from → (get_or l.order j (0, 0)).0 < l.cell;
  above : (j : ℕ) → l.to ≤ j → j < length l.order → l.cell < (get_or l.order j (0, 0)).0;
  looks : (digits : ℕ) → length l.order < 2 ^ digits → (d : ℕ) × (l.to - l.from < 2 ^ d) × (l.looks + d ≤ l.fn.looks + digits);
}

abbrev pub decreases-loop-from : goal.decreases-loop-from
decreases-loop-from g l = l.to - l.from
