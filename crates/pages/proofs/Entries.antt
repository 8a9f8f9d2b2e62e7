-- The entries of a state in lists of states.
use Rattle.std.proofs.Common.{◌≡◌, ◌∙◌, ◌⊎◌, inl, inr, ℕ, zero, suc, ◌+◌, ◌*◌, ◌^◌, ◌<◌, ◌≤◌, List, [], take, drop, length, min, refl, sym, ap, arith}
use Rattle.std.proofs.lemmas.Bool.{cases_lt}
use Rattle.std.proofs.lemmas.Grind.{common_steps}

taken_all : (xs : List ℕ) (n : ℕ) → length xs ≤ n → take n xs ≡ xs
taken_all xs n le = grind (arith, common_steps)

dropped_all : (xs : List ℕ) (n : ℕ) → length xs ≤ n → drop n xs ≡ []
dropped_all xs n le = grind (arith, common_steps)

taken_none : (k : ℕ) (xs : List ℕ) → xs ≡ [] → take k xs ≡ []
taken_none k xs e = grind (arith, common_steps)

times : (t n : ℕ) → n ≤ (t + 1) * n
times t n = grind arith

-- so many entries or more are all that there are
small : (xs : List ℕ) (n s : ℕ) → length xs ≤ n → take n (drop (s * n) xs) ≡ take (length xs) (drop (s * length xs) xs)
small xs n zero le =
    let none : zero * n ≡ 0 = omega arith in
    let none' : zero * length xs ≡ 0 = omega arith in
    ap (λ k. take n (drop k xs)) none ∙ taken_all xs n le ∙ sym (ap (λ k. take (length xs) (drop k xs)) none' ∙ taken_all xs (length xs) (omega arith))
small xs n (suc s) le =
    let here = times s n in
    let there = times s (length xs) in
    let same : suc s ≡ s + 1 = omega arith in
    ap (λ k. take n (drop (k * n) xs)) same
    ∙ ap (take n) (dropped_all xs ((s + 1) * n) (omega (arith, le, here)))
    ∙ taken_none n [] refl ∙ sym (taken_none (length xs) [] refl)
    ∙ sym (ap (λ k. take (length xs) (drop (k * length xs) xs)) same ∙ ap (take (length xs)) (dropped_all xs ((s + 1) * length xs) (omega (arith, there))))

-- the entries of a state, if their number is bounded by more than there are
pub entries_bounded : (xs : List ℕ) (k n s : ℕ) → n ≡ min k 18446744073709551615 → length xs < 2 ^ 64 → take n (drop (s * n) xs) ≡ take k (drop (s * k) xs)
entries_bounded xs k n s is short = by (cases_lt k 18446744073709551616)
  where
    by : (k < 18446744073709551616) ⊎ (18446744073709551616 ≤ k) → take n (drop (s * n) xs) ≡ take k (drop (s * k) xs)
    by (inl less) = let same : n ≡ k = omega (arith, is, less) in ap (λ m. take m (drop (s * m) xs)) same
    by (inr more) = small xs n s (omega (arith, is, short, more)) ∙ sym (small xs k s (omega (arith, short, more)))
