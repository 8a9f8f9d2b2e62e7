-- Runs of bytes at the front of a text.
use Rattle.std.proofs.Common.{◌≡◌, ℕ, ◌+◌, ◌<◌, ◌≤◌, inl, inr, Bool, true, false, List, length, take, drop, slice_index, arith, get_or-drop}
use Rattle.std.proofs.lemmas.Bool.{cases_lt}
use Rattle.std.proofs.lemmas.List.{get_or-take, length-take-le}
use Rattle.std.proofs.lemmas.List.Sums.{prefix_len-le-length, prefix_len_passes, prefix_len_stops}
use Rattle.std.specs.List.{prefix_len}
use Rattle.lex.specs.Bytes.{Only}

pub only_run : (p : ℕ → Bool) (xs : List ℕ) (n : ℕ) → n ≤ prefix_len p xs → Only p (take n xs)
only_run p xs n le k lt =
    let all : prefix_len p xs ≤ length xs = prefix_len-le-length p xs in
    let size : length (take n xs) ≡ n = length-take-le n xs (omega arith) in
    let within : k < n = omega arith in
    rw get_or-take (prefix_len_passes p xs k 0 (omega arith))

pub only_most : (p : ℕ → Bool) (xs : List ℕ) (n : ℕ) → n ≤ length xs → Only p (take n xs) → n ≤ prefix_len p xs
only_most p xs n le h = elim (cases_lt (prefix_len p xs) n) [
  | inl lt ↦
      let size : length (take n xs) ≡ n = length-take-le n xs le in
      let passes : p (slice_index (take n xs) (prefix_len p xs)) ≡ true = h (prefix_len p xs) (omega arith) in
      let here : p (slice_index xs (prefix_len p xs)) ≡ true = rw get_or-take at passes in
      let stops : p (slice_index xs (prefix_len p xs)) ≡ false = prefix_len_stops p xs 0 (omega arith) in
      absurd (clash (p (slice_index xs (prefix_len p xs))) here stops)
  | inr ge ↦ ge
]
  where
    clash : (b : Bool) → b ≡ true → b ≡ false → ⊥
    clash b t f = cc

-- the first bytes of the front are those of the text
pub front_byte : (xs : List ℕ) (n k : ℕ) → k < n → slice_index (take n xs) k ≡ slice_index xs k
front_byte xs n k lt = get_or-take n xs k 0 lt

pub rest_byte : (xs : List ℕ) (at k : ℕ) → slice_index (drop at xs) k ≡ slice_index xs (at + k)
rest_byte xs at k = get_or-drop at xs k 0
