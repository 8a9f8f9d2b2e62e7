use Rattle.std.proofs.Common.{ℕ, List, ◌≡◌, ◌++◌, append_assoc}
use Rattle.std.proofs.lemmas.Result.{on_ok_weaker}
use Rattle.report.proofs.report.push_held.Goals as goal

-- three pieces, each put behind those before
joined : (before one two three head number end : List ℕ) → one ≡ before ++ head → two ≡ one ++ number → three ≡ two ++ end → three ≡ before ++ (head ++ (number ++ end))
joined before one two three head number end first second third = rw (third, second, first) (simp append_assoc)

pub returns : goal.returns
returns g c = on_ok_weaker c.push_bytes-2.result (λ last. joined _ _ _ _ _ _ _ c.in_ok-push_bytes.ensures (rw c.from.ensures at c.in_ok-push_number.ensures) last) c.push_bytes-2.ensures
