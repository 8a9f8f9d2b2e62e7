-- The longest piece at the front.
use Rattle.std.proofs.Common.{◌≡◌, ℕ, zero, suc, ◌+◌, ◌-◌, ◌<◌, ◌≤◌, inl, inr, Bool, true, List, [], ◌∷◌, length, take, slice_index, refl, sym, ap, ◌∙◌, arith}
use Rattle.std.specs.List.{prefix_len}
use Rattle.std.proofs.lemmas.Bool.Decides.{nat_tests}
use Rattle.std.proofs.lemmas.Bool.{cases_lt}
use Rattle.std.proofs.lemmas.List.{length-take-le}
use Rattle.std.proofs.lemmas.List.Sums.{prefix_len-le-length}
use Rattle.lex.specs.declared.token.Fixed.{Fixed}
use Rattle.lex.specs.Spelling.{spelling}
use Rattle.lex.specs.Bytes.{is_letter, is_part, in_line, Only}
use Rattle.lex.specs.Pieces.{IsWord, IsComment, IsOpen, IsLine, IsDirective, ClosesComment, Shape, Longest}
use Rattle.lex.specs.Pieces as s
use Rattle.lex.proofs.pieces.Runs.{only_run, only_most, front_byte}
use Rattle.lex.proofs.pieces.Classes.{slash, class, letter_class, byte_class, word_only, directive_only, slash_only, slash_length, Slashed, closed, line, unclosed, fixed, front_class}

pub letter_part : (b : ℕ) → is_letter b ≡ true → is_part b ≡ true
letter_part b h = grind (arith, nat_tests)

-- a run is not empty where its first byte passes
pub run_some : (p : ℕ → Bool) (xs : List ℕ) → 0 < length xs → p (slice_index xs 0) ≡ true → 0 < prefix_len p xs
run_some p [] lt h = absurd (omega arith)
run_some p (b ∷ xs) lt h = rw h (omega arith)

-- ---- words

pub word_piece : (rest : List ℕ) → 0 < length rest → is_letter (slice_index rest 0) ≡ true → IsWord (take (prefix_len is_part rest) rest)
word_piece rest lt h =
    let some : 0 < prefix_len is_part rest = run_some is_part rest lt (letter_part (slice_index rest 0) h) in
    let size : length (take (prefix_len is_part rest) rest) ≡ prefix_len is_part rest = length-take-le (prefix_len is_part rest) rest (prefix_len-le-length is_part rest) in
    (omega arith, ap is_letter (front_byte rest (prefix_len is_part rest) 0 some) ∙ h, only_run is_part rest (prefix_len is_part rest) (omega arith))

pub word_longest : (rest : List ℕ) → 0 < length rest → is_letter (slice_index rest 0) ≡ true → Longest rest (prefix_len is_part rest)
word_longest rest lt h = record {
  within = prefix_len-le-length is_part rest;
  shaped = s.word (word_piece rest lt h);
  longest = λ n le x. go n le x;
}
  where
    go : (n : ℕ) → n ≤ length rest → Shape (take n rest) → n ≤ prefix_len is_part rest
    go zero le x = omega arith
    go (suc n) le x = only_most is_part rest (suc n) le (word_only (take (suc n) rest) x (front_class rest (suc n) (omega arith) x ∙ letter_class (slice_index rest 0) h))

-- ---- directives

pub not_line_feed : (b k : ℕ) → b ≡ k → in_line k ≡ true → in_line b ≡ true
not_line_feed b k e h = ap in_line e ∙ h

pub directive_piece : (rest : List ℕ) → 0 < length rest → slice_index rest 0 ≡ 35 → IsDirective (take (prefix_len in_line rest) rest)
directive_piece rest lt h =
    let some : 0 < prefix_len in_line rest = run_some in_line rest lt (not_line_feed (slice_index rest 0) 35 h refl) in
    let size : length (take (prefix_len in_line rest) rest) ≡ prefix_len in_line rest = length-take-le (prefix_len in_line rest) rest (prefix_len-le-length in_line rest) in
    record {
      large = omega arith;
      number = front_byte rest (prefix_len in_line rest) 0 some ∙ h;
      within = only_run in_line rest (prefix_len in_line rest) (omega arith);
    }

pub directive_longest : (rest : List ℕ) → 0 < length rest → slice_index rest 0 ≡ 35 → Longest rest (prefix_len in_line rest)
directive_longest rest lt h = record {
  within = prefix_len-le-length in_line rest;
  shaped = s.directive (directive_piece rest lt h);
  longest = λ n le x. go n le x;
}
  where
    go : (n : ℕ) → n ≤ length rest → Shape (take n rest) → n ≤ prefix_len in_line rest
    go zero le x = omega arith
    go (suc n) le x = only_most in_line rest (suc n) le (directive_only (take (suc n) rest) x (front_class rest (suc n) (omega arith) x ∙ byte_class (slice_index rest 0) 35 h)).within

-- ---- comments

-- the first two bytes of a front
second : (rest : List ℕ) (n : ℕ) (k : ℕ) → 2 ≤ n → slice_index (take n rest) 1 ≡ k → slice_index rest 1 ≡ k
second rest n k le e = sym (front_byte rest n 1 (omega arith)) ∙ e

fixed_size : (rest : List ℕ) (n : ℕ) (k : Fixed) → n ≤ length rest → class (spelling k) ≡ slash → take n rest ≡ spelling k → n ≤ 2
fixed_size rest n k le c e =
    let size : length (take n rest) ≡ n = length-take-le n rest le in
    let short : length (spelling k) ≤ 2 = slash_length k c in
    let same : length (take n rest) ≡ length (spelling k) = ap (λ (z : List ℕ). length z) e in
    omega arith

closes_front : (rest : List ℕ) (n k : ℕ) → k + 1 < n → ClosesComment rest k → ClosesComment (take n rest) k
closes_front rest n k lt h = (front_byte rest n k (omega arith) ∙ h.0, front_byte rest n (k + 1) lt ∙ h.1)

closes_back : (rest : List ℕ) (n k : ℕ) → k + 1 < n → ClosesComment (take n rest) k → ClosesComment rest k
closes_back rest n k lt h = (sym (front_byte rest n k (omega arith)) ∙ h.0, sym (front_byte rest n (k + 1) lt) ∙ h.1)

pub line_two : (rest : List ℕ) → 2 ≤ length rest → slice_index rest 0 ≡ 47 → slice_index rest 1 ≡ 47 → 2 ≤ prefix_len in_line rest
line_two rest le a b = only_most in_line rest 2 le both
  where
    both : Only in_line (take 2 rest)
    both zero lt = ap in_line (front_byte rest 2 0 (omega arith) ∙ a)
    both (suc zero) lt = ap in_line (front_byte rest 2 1 (omega arith) ∙ b)
    both (suc (suc k)) lt = let size : length (take 2 rest) ≡ 2 = length-take-le 2 rest le in absurd (omega arith)

pub line_piece : (rest : List ℕ) → 2 ≤ length rest → slice_index rest 0 ≡ 47 → slice_index rest 1 ≡ 47 → IsLine (take (prefix_len in_line rest) rest)
line_piece rest le a b =
    let two = line_two rest le a b in
    let size : length (take (prefix_len in_line rest) rest) ≡ prefix_len in_line rest = length-take-le (prefix_len in_line rest) rest (prefix_len-le-length in_line rest) in
    record {
      large = omega arith;
      slashes = (front_byte rest (prefix_len in_line rest) 0 (omega arith) ∙ a, front_byte rest (prefix_len in_line rest) 1 (omega arith) ∙ b);
      within = only_run in_line rest (prefix_len in_line rest) (omega arith);
    }

differ : (b : ℕ) → b ≡ 47 → b ≡ 42 → ⊥
differ b e f = omega arith

pub line_longest : (rest : List ℕ) → 2 ≤ length rest → slice_index rest 0 ≡ 47 → slice_index rest 1 ≡ 47 → Longest rest (prefix_len in_line rest)
line_longest rest least a b = record {
  within = prefix_len-le-length in_line rest;
  shaped = s.line (line_piece rest least a b);
  longest = λ n le x. go n le x;
}
  where
    by : (n : ℕ) → n ≤ length rest → Slashed (take n rest) → n ≤ prefix_len in_line rest
    by n le (closed h) = absurd (differ (slice_index rest 1) b (second rest n 42 (let large = h.large in let size = length-take-le n rest le in omega arith) h.opens.1))
    by n le (line h) = only_most in_line rest n le h.within
    by n le (unclosed h) = absurd (differ (slice_index rest 1) b (second rest n 42 (let large = h.large in let size = length-take-le n rest le in omega arith) h.opens.1))
    by n le (fixed k c e) = let small = fixed_size rest n k le c e in let two = line_two rest least a b in omega arith

    go : (n : ℕ) → n ≤ length rest → Shape (take n rest) → n ≤ prefix_len in_line rest
    go zero le x = omega arith
    go (suc n) le x = by (suc n) le (slash_only (take (suc n) rest) x (front_class rest (suc n) (omega arith) x ∙ byte_class (slice_index rest 0) 47 a))

pub comment_piece : (rest : List ℕ) (k : ℕ) → slice_index rest 0 ≡ 47 → slice_index rest 1 ≡ 42 → 2 ≤ k → k + 2 ≤ length rest → ClosesComment rest k → ((j : ℕ) → 2 ≤ j → j < k → ClosesComment rest j → ⊥) → IsComment (take (k + 2) rest)
comment_piece rest k a b two le here none =
    let size : length (take (k + 2) rest) ≡ k + 2 = length-take-le (k + 2) rest le in
    record {
      opens = (front_byte rest (k + 2) 0 (omega arith) ∙ a, front_byte rest (k + 2) 1 (omega arith) ∙ b);
      large = omega arith;
      closes = (let at : length (take (k + 2) rest) - 2 ≡ k = omega arith in rw at (closes_front rest (k + 2) k (omega arith) here));
      first = λ j le lt h. none j le (omega arith) (closes_back rest (k + 2) j (omega arith) h);
    }

pub comment_longest : (rest : List ℕ) (k : ℕ) → slice_index rest 0 ≡ 47 → slice_index rest 1 ≡ 42 → 2 ≤ k → k + 2 ≤ length rest → ClosesComment rest k → ((j : ℕ) → 2 ≤ j → j < k → ClosesComment rest j → ⊥) → Longest rest (k + 2)
comment_longest rest k a b two le here none = record {
  within = le;
  shaped = s.comment (comment_piece rest k a b two le here none);
  longest = λ n le x. go n le x;
}
  where
    more : (n : ℕ) → n ≤ length rest → ((k + 2 < n) → ClosesComment (take n rest) k → ⊥) → n ≤ k + 2
    more n le never = elim (cases_lt (k + 2) n) [
      | inl lt ↦ absurd (never lt (closes_front rest n k (omega arith) here))
      | inr ge ↦ ge
    ]

    by : (n : ℕ) → n ≤ length rest → Slashed (take n rest) → n ≤ k + 2
    by n le (closed h) = more n le (λ lt c. let size = length-take-le n rest le in h.first k two (omega arith) c)
    by n le (line h) = absurd (differ (slice_index rest 1) (second rest n 47 (let large = h.large in let size = length-take-le n rest le in omega arith) h.slashes.1) b)
    by n le (unclosed h) = more n le (λ lt c. let size = length-take-le n rest le in h.never k two (omega arith) c)
    by n le (fixed m c e) = let small = fixed_size rest n m le c e in omega arith

    go : (n : ℕ) → n ≤ length rest → Shape (take n rest) → n ≤ k + 2
    go zero le x = omega arith
    go (suc n) le x = by (suc n) le (slash_only (take (suc n) rest) x (front_class rest (suc n) (omega arith) x ∙ byte_class (slice_index rest 0) 47 a))

pub open_piece : (rest : List ℕ) → 2 ≤ length rest → slice_index rest 0 ≡ 47 → slice_index rest 1 ≡ 42 → ((j : ℕ) → 2 ≤ j → j + 2 ≤ length rest → ClosesComment rest j → ⊥) → IsOpen (take (length rest) rest)
open_piece rest le a b none =
    let size : length (take (length rest) rest) ≡ length rest = length-take-le (length rest) rest (omega arith) in
    record {
      opens = (front_byte rest (length rest) 0 (omega arith) ∙ a, front_byte rest (length rest) 1 (omega arith) ∙ b);
      large = omega arith;
      never = λ j two le h. none j two (omega arith) (closes_back rest (length rest) j (omega arith) h);
    }

pub open_longest : (rest : List ℕ) → 2 ≤ length rest → slice_index rest 0 ≡ 47 → slice_index rest 1 ≡ 42 → ((j : ℕ) → 2 ≤ j → j + 2 ≤ length rest → ClosesComment rest j → ⊥) → Longest rest (length rest)
open_longest rest le a b none = record {
  within = omega arith;
  shaped = s.open_comment (open_piece rest le a b none);
  longest = λ n le x. le;
}
