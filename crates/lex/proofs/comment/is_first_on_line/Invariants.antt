use Rattle.std.proofs.Common.{◌≡◌, ℕ, ◌<◌, ◌≤◌, true, length, slice_index}
use Rattle.lex.specs.Bytes.{is_blank}
use Rattle.lex.proofs.comment.is_first_on_line.Given as goal

-- only spaces and tabs stand from k on
abbrev pub invariant-back : goal.invariant-back
invariant-back l = record {
  within : l.k ≤ length l.before;
  blank : (j : ℕ) → l.k ≤ j → j < length l.before → is_blank (slice_index l.before j) ≡ true;
}

abbrev pub decreases-back : goal.decreases-back
decreases-back l = l.k
