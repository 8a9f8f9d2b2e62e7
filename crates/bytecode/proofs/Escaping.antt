-- Characters that stand for themselves in a listed text.
use Rattle.std.proofs.Common.{◌≡◌, ◌≢◌, ℕ, suc, ◌<◌, ◌≤◌, false, ◌==◌, List, [], ◌∷◌, ◌++◌, length, slice_index, refl, sym, ap, ◌∙◌, arith, inl, inr, append_assoc}
use Rattle.std.specs.Prelude.{flat_map}
use lib.Utf8.{encode}
use Rattle.std.proofs.lemmas.Bool.{cases_lt}
use Rattle.std.proofs.lemmas.Bool.Decides.{nat_tests}
use Rattle.std.proofs.lemmas.List.{append-nil}
use Rattle.std.proofs.lemmas.Str.{encode_ascii, inside_one}
use Rattle.bytecode.specs.Listing.{listing_escape}

unequal : (b n : ℕ) → b ≢ n → (b == n) ≡ false
unequal b n h = grind (arith, nat_tests)

keeps : (b : ℕ) → b ≢ 10 → b ≢ 9 → b ≢ 92 → b ≢ 34 → listing_escape b ≡ b ∷ []
keeps b h i j k = rw (unequal b 10 h, unequal b 9 i, unequal b 92 j, unequal b 34 k) refl

high : (bs rest : List ℕ) → ((k : ℕ) → k < length bs → 128 ≤ slice_index bs k) → flat_map listing_escape (bs ++ rest) ≡ bs ++ flat_map listing_escape rest
high [] rest h = refl
high (b ∷ bs) rest h =
    let big : 128 ≤ b = h 0 (omega arith) in
    rw (keeps b (λ e. omega arith) (λ e. omega arith) (λ e. omega arith) (λ e. omega arith)) (ap (λ (z : List ℕ). b ∷ z) (high bs rest (λ k lt. h (suc k) (omega arith))))

encode_high : (c : ℕ) → 128 ≤ c → (k : ℕ) → k < length (encode c) → 128 ≤ slice_index (encode c) k
encode_high c le k lt = elim (cases_lt (slice_index (encode c) k) 128) [
  | inl small ↦ let e : c ≡ slice_index (encode c) k = inside_one c [] (encode c) k (sym (append-nil (encode c))) lt small in absurd (omega arith)
  | inr big ↦ big
]

plain_char : (c : ℕ) (rest : List ℕ) → c ≢ 10 → c ≢ 9 → c ≢ 92 → c ≢ 34 → encode c ++ flat_map listing_escape rest ≡ flat_map listing_escape (encode c ++ rest)
plain_char c rest h i j k = elim (cases_lt c 128) [
  | inl lt ↦ rw (encode_ascii c lt) (rw (keeps c h i j k) refl)
  | inr le ↦ sym (high (encode c) rest (encode_high c le))
]

pub plain_turn : (old new before after whole : List ℕ) (c : ℕ) → c ≢ 10 → c ≢ 9 → c ≢ 92 → c ≢ 34 → old ≡ encode c ++ new → after ≡ before ++ encode c → before ++ flat_map listing_escape old ≡ whole → after ++ flat_map listing_escape new ≡ whole
plain_turn old new before after whole c h i j k o a w =
    ap (λ (z : List ℕ). z ++ flat_map listing_escape new) a ∙ append_assoc before (encode c) (flat_map listing_escape new) ∙ ap (λ (z : List ℕ). before ++ z) (plain_char c new h i j k) ∙ ap (λ (z : List ℕ). before ++ flat_map listing_escape z) (sym o) ∙ w
