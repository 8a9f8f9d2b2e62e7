use Rattle.std.proofs.Common.{length, ◌-◌, ℕ, ◌+◌, ◌<◌, ◌≤◌}
use Rattle.lex.specs.Pieces.{ClosesComment}
use Rattle.lex.proofs.comment.close.Given as goal

-- no `*/` stands before k
abbrev pub invariant-close : goal.invariant-close
invariant-close l = record {
  from : 2 ≤ l.k;
  within : l.k ≤ length l.rest + 2;
  none : (j : ℕ) → 2 ≤ j → j < l.k → ClosesComment l.rest j → ⊥;
}

abbrev pub decreases-close : goal.decreases-close
decreases-close l = length l.rest - l.k
