-- Escapes, a character at a time.
use Rattle.std.proofs.Common.{◌≡◌, ℕ, suc, ◌<◌, ◌≤◌, Bool, true, false, ◌==◌, List, [], ◌∷◌, ◌++◌, length, slice_index, refl, sym, ap, ◌∙◌, arith, inl, inr, append_assoc}
use lib.Utf8.{encode}
use Rattle.std.proofs.lemmas.Bool.{cases_lt}
use Rattle.std.proofs.lemmas.Bool.Decides.{nat_tests}
use Rattle.std.proofs.lemmas.List.{append-nil}
use Rattle.std.proofs.lemmas.Str.{encode_ascii, inside_one, len_utf8_bounds, length-encode}
use Rattle.lex.specs.Tokens.{stands_for, string_value}

-- what the rest stands for, behind a backslash or not
abbrev pub pending : Bool → List ℕ → List ℕ
pending true rest = string_value (92 ∷ rest)
pending false rest = string_value rest

unequal : (b : ℕ) → (b ≡ 92 → ⊥) → (b == 92) ≡ false
unequal b h = grind (arith, nat_tests)

plain_step : (a : ℕ) (w : List ℕ) → (a ≡ 92 → ⊥) → string_value (a ∷ w) ≡ a ∷ string_value w
plain_step a [] h = refl
plain_step a (b ∷ w) h = rw (unequal a h) refl

unescaped_high : (bs rest : List ℕ) → ((k : ℕ) → k < length bs → 128 ≤ slice_index bs k) → string_value (bs ++ rest) ≡ bs ++ string_value rest
unescaped_high [] rest h = refl
unescaped_high (b ∷ bs) rest h =
    let big : 128 ≤ b = h 0 (omega arith) in
    plain_step b (bs ++ rest) (λ e. omega arith) ∙ ap (λ (z : List ℕ). b ∷ z) (unescaped_high bs rest (λ k lt. h (suc k) (omega arith)))

encode_high : (c : ℕ) → 128 ≤ c → (k : ℕ) → k < length (encode c) → 128 ≤ slice_index (encode c) k
encode_high c le k lt = elim (cases_lt (slice_index (encode c) k) 128) [
  | inl small ↦ let e : c ≡ slice_index (encode c) k = inside_one c [] (encode c) k (sym (append-nil (encode c))) lt small in absurd (omega arith)
  | inr big ↦ big
]

pub plain_char : (c : ℕ) (rest : List ℕ) → (c ≡ 92 → ⊥) → encode c ++ string_value rest ≡ string_value (encode c ++ rest)
plain_char c rest h = elim (cases_lt c 128) [
  | inl lt ↦ rw (encode_ascii c lt) (sym (plain_step c rest h))
  | inr le ↦ sym (unescaped_high (encode c) rest (encode_high c le))
]

high_escape : (bs rest : List ℕ) → 0 < length bs → ((k : ℕ) → k < length bs → 128 ≤ slice_index bs k) → bs ++ string_value rest ≡ string_value (92 ∷ (bs ++ rest))
high_escape [] rest lt h = absurd (omega arith)
high_escape (b ∷ bs) rest lt h =
    let big : 128 ≤ b = h 0 (omega arith) in
    let stays : stands_for b ≡ b = grind (arith, nat_tests) in
    sym (ap (λ (k : ℕ). k ∷ string_value (bs ++ rest)) stays ∙ ap (λ (z : List ℕ). b ∷ z) (unescaped_high bs rest (λ k lt. h (suc k) (omega arith))))

pub escaped_char : (c : ℕ) (rest : List ℕ) → encode (stands_for c) ++ string_value rest ≡ string_value (92 ∷ (encode c ++ rest))
escaped_char c rest = elim (cases_lt c 128) [
  | inl lt ↦
      let small : stands_for c < 128 = grind (arith, nat_tests) in
      rw (encode_ascii c lt, encode_ascii (stands_for c) small) refl
  | inr le ↦
      let stays : stands_for c ≡ c = grind (arith, nat_tests) in
      ap (λ (k : ℕ). encode k ++ string_value rest) stays ∙ high_escape (encode c) rest (let b = len_utf8_bounds c in let s = length-encode c in omega arith) (encode_high c le)
]

-- ---- one turn

pub escaped_turn : (old new before after whole : List ℕ) (c d : ℕ) (flag : Bool) → flag ≡ true → old ≡ encode c ++ new → d ≡ stands_for c → after ≡ before ++ encode d → before ++ pending flag old ≡ whole → after ++ string_value new ≡ whole
escaped_turn old new before after whole c d flag f o s a h =
    ap (λ (z : List ℕ). z ++ string_value new) a ∙ append_assoc before (encode d) (string_value new) ∙ ap (λ (k : ℕ). before ++ (encode k ++ string_value new)) s ∙ ap (λ (z : List ℕ). before ++ z) (escaped_char c new) ∙ ap (λ (z : List ℕ). before ++ string_value (92 ∷ z)) (sym o) ∙ ap (λ (t : Bool). before ++ pending t old) (sym f) ∙ h

pub plain_turn : (old new before after whole : List ℕ) (c : ℕ) (flag : Bool) → flag ≡ false → (c ≡ 92 → ⊥) → old ≡ encode c ++ new → after ≡ before ++ encode c → before ++ pending flag old ≡ whole → after ++ pending flag new ≡ whole
plain_turn old new before after whole c flag f n o a h =
    ap (λ (t : Bool). after ++ pending t new) f ∙ ap (λ (z : List ℕ). z ++ string_value new) a ∙ append_assoc before (encode c) (string_value new) ∙ ap (λ (z : List ℕ). before ++ z) (plain_char c new n) ∙ ap (λ (z : List ℕ). before ++ string_value z) (sym o) ∙ ap (λ (t : Bool). before ++ pending t old) (sym f) ∙ h
