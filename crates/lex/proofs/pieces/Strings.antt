-- Where a string ends.
use Rattle.std.proofs.Common.{◌≡◌, ℕ, zero, suc, ◌+◌, ◌<◌, ◌≤◌, inl, inr, true, false, ◌==◌, if◌then◌else◌, List, [], ◌∷◌, ◌++◌, length, take, drop, slice_index, refl, sym, ap, ◌∙◌, arith, subst, length-append, append_assoc}
use Rattle.std.proofs.lemmas.List.{take-append-drop}
use Rattle.std.proofs.lemmas.Bool.Decides.{nat_tests}
use Rattle.std.proofs.lemmas.List.{length-take-le, take_more, drop_more}
use Rattle.lex.specs.Bytes.{is_plain, is_escape}
use Rattle.lex.specs.Pieces.{IsStringBody, IsString, Shape, Longest}
use Rattle.lex.specs.Pieces as s
use Rattle.lex.specs.inner.Strings.{Unclosed}
use Rattle.lex.proofs.pieces.Classes.{byte_class, quotes_only, Quoted, string, alone, front_class}

-- a byte that stands for itself is no quote and no backslash
pub plain_not : (b k : ℕ) → is_plain b ≡ true → b ≡ k → is_plain k ≡ false → ⊥
plain_not b k h e f = let g : true ≡ false = sym h ∙ ap is_plain e ∙ f in cc

heads : {x y : ℕ} {xs ys : List ℕ} → x ∷ xs ≡ y ∷ ys → (x ≡ y) × (xs ≡ ys)
heads e = (cc, cc)

-- how many bytes stand before the quote that closes
abbrev closing : List ℕ → ℕ
closing [] = 0
closing (a ∷ []) = 0
closing (a ∷ b ∷ rest) = if a == 34 then 0 else (if a == 92 then 2 + closing rest else 1 + closing (b ∷ rest))

closing_quote : (more : List ℕ) → closing (34 ∷ more) ≡ 0
closing_quote [] = refl
closing_quote (b ∷ more) = refl

closing_plain : (a : ℕ) (w : List ℕ) → is_plain a ≡ true → 0 < length w → closing (a ∷ w) ≡ 1 + closing w
closing_plain a [] h lt = absurd (omega arith)
closing_plain a (b ∷ w) h lt =
    let no : (a == 34) ≡ false = grind (arith, nat_tests) in
    let not : (a == 92) ≡ false = grind (arith, nat_tests) in
    rw (no, not) refl

closing_inside : (inner more : List ℕ) → IsStringBody inner → closing (inner ++ 34 ∷ more) ≡ length inner
closing_inside [] more h = closing_quote more
closing_inside (a ∷ []) more h =
    let e = closing_plain a (34 ∷ more) h (omega arith) in
    let f = closing_quote more in
    omega arith
closing_inside (a ∷ b ∷ w) more h = elim h [
  | inl p ↦
      let e = closing_plain a (b ∷ (w ++ 34 ∷ more)) p.0 (omega arith) in
      let f = closing_inside (b ∷ w) more p.1 in
      omega arith
  | inr q ↦
      let e : closing (a ∷ b ∷ (w ++ 34 ∷ more)) ≡ 2 + closing (w ++ 34 ∷ more) = ap (λ (x : ℕ). closing (x ∷ b ∷ (w ++ 34 ∷ more))) q.0 in
      let f = closing_inside w more q.2 in
      omega arith
]

-- a string ends at one offset
pub inside_same : (a b more less : List ℕ) → a ++ 34 ∷ more ≡ b ++ 34 ∷ less → IsStringBody a → IsStringBody b → length a ≡ length b
inside_same a b more less e h k = sym (closing_inside a more h) ∙ ap closing e ∙ closing_inside b less k

pub inside_append : (a b : List ℕ) → IsStringBody a → IsStringBody b → IsStringBody (a ++ b)
inside_append [] b h k = k
inside_append (x ∷ []) [] h k = h
inside_append (x ∷ []) (y ∷ b) h k = inl (h, k)
inside_append (x ∷ y ∷ a) b h k = elim h [
  | inl p ↦ inl (p.0, inside_append (y ∷ a) b p.1 k)
  | inr q ↦ inr (q.0, q.1, inside_append a b q.2 k)
]

-- ---- one turn

pub inside_plain : (rest : List ℕ) (at : ℕ) → at < length rest → is_plain (slice_index rest at) ≡ true → IsStringBody (take at rest) → IsStringBody (take (at + 1) rest)
inside_plain rest at lt h k = rw (take_more rest at 0 lt) (inside_append (take at rest) (slice_index rest at ∷ []) k h)

pub open_plain : (rest : List ℕ) (at : ℕ) → at < length rest → is_plain (slice_index rest at) ≡ true → Unclosed (drop (at + 1) rest) → Unclosed (drop at rest)
open_plain rest at lt h u inner more e = go inner (sym (drop_more rest at 0 lt) ∙ e)
  where
    go : (inner : List ℕ) → slice_index rest at ∷ drop (at + 1) rest ≡ inner ++ 34 ∷ more → IsStringBody inner → ⊥
    go [] e i = plain_not (slice_index rest at) 34 h (heads e).0 refl
    go (y ∷ []) e i = u [] more (heads e).1 tt
    go (y ∷ z ∷ w) e i = elim i [
      | inl p ↦ u (z ∷ w) more (heads e).1 p.1
      | inr q ↦ plain_not (slice_index rest at) 92 h ((heads e).0 ∙ q.0) refl
    ]

pub inside_escape : (rest : List ℕ) (at : ℕ) → at + 1 < length rest → slice_index rest at ≡ 92 → is_escape (slice_index rest (at + 1)) ≡ true → IsStringBody (take at rest) → IsStringBody (take (at + 2) rest)
inside_escape rest at lt a b k =
    let lt_at : at < length rest = omega arith in
    let one : take (at + 1) rest ≡ take at rest ++ slice_index rest at ∷ [] = take_more rest at 0 lt_at in
    let two : take (at + 1 + 1) rest ≡ take (at + 1) rest ++ slice_index rest (at + 1) ∷ [] = take_more rest (at + 1) 0 lt in
    let sum : at + 2 ≡ at + 1 + 1 = omega arith in
    let whole : take (at + 2) rest ≡ take at rest ++ slice_index rest at ∷ slice_index rest (at + 1) ∷ [] =
    ap (λ (n : ℕ). take n rest) sum ∙ two ∙ ap (λ (z : List ℕ). z ++ slice_index rest (at + 1) ∷ []) one ∙ append_assoc (take at rest) (slice_index rest at ∷ []) (slice_index rest (at + 1) ∷ []) in
    subst IsStringBody (sym whole) (inside_append (take at rest) (slice_index rest at ∷ slice_index rest (at + 1) ∷ []) k (inr (a, b, tt)))

apart : (b : ℕ) → b ≡ 92 → b ≡ 34 → ⊥
apart b e f = omega arith

pub open_escape : (rest : List ℕ) (at : ℕ) → at + 1 < length rest → slice_index rest at ≡ 92 → Unclosed (drop (at + 2) rest) → Unclosed (drop at rest)
open_escape rest at lt a u inner more e =
    let lt_at : at < length rest = omega arith in
    let one : drop at rest ≡ slice_index rest at ∷ drop (at + 1) rest = drop_more rest at 0 lt_at in
    let two : drop (at + 1) rest ≡ slice_index rest (at + 1) ∷ drop (at + 1 + 1) rest = drop_more rest (at + 1) 0 lt in
    let sum : at + 1 + 1 ≡ at + 2 = omega arith in
    let whole : drop at rest ≡ slice_index rest at ∷ slice_index rest (at + 1) ∷ drop (at + 2) rest =
    one ∙ ap (λ (z : List ℕ). slice_index rest at ∷ z) (two ∙ ap (λ (n : ℕ). slice_index rest (at + 1) ∷ drop n rest) sum) in
    go inner (sym whole ∙ e)
  where
    go : (inner : List ℕ) → slice_index rest at ∷ slice_index rest (at + 1) ∷ drop (at + 2) rest ≡ inner ++ 34 ∷ more → IsStringBody inner → ⊥
    go [] e i = apart (slice_index rest at) a (heads e).0
    go (y ∷ []) e i = plain_not y 92 i (sym (heads e).0 ∙ a) refl
    go (y ∷ z ∷ w) e i = elim i [
      | inl p ↦ plain_not y 92 p.0 (sym (heads e).0 ∙ a) refl
      | inr q ↦ u w more (heads (heads e).1).1 q.2
    ]

-- ---- the piece

pub string_piece : (rest behind : List ℕ) (n : ℕ) → rest ≡ 34 ∷ behind → n < length behind → IsStringBody (take n behind) → slice_index behind n ≡ 34 → IsString (take (n + 2) rest) (take n behind)
string_piece rest behind n e lt i q =
    let sum : n + 2 ≡ suc (n + 1) = omega arith in
    let more : take (n + 1) behind ≡ take n behind ++ slice_index behind n ∷ [] = take_more behind n 0 lt in
    let whole : take (n + 2) rest ≡ 34 ∷ take (n + 1) behind = ap (take (n + 2)) e ∙ ap (λ (k : ℕ). take k (34 ∷ behind)) sum in
    record { written = whole ∙ ap (λ (z : List ℕ). 34 ∷ z) (more ∙ ap (λ (b : ℕ). take n behind ++ b ∷ []) q); inside = i }

pub string_longest : (rest behind : List ℕ) (n : ℕ) → rest ≡ 34 ∷ behind → n < length behind → IsStringBody (take n behind) → slice_index behind n ≡ 34 → Longest rest (n + 2)
string_longest rest behind n e lt i q = record {
  within = (let size : length rest ≡ length (34 ∷ behind) = ap (λ (z : List ℕ). length z) e in omega arith);
  shaped = s.string (take n behind) (string_piece rest behind n e lt i q);
  longest = λ m le x. go m le x;
}
  where
    by : (m : ℕ) → m ≤ length rest → Quoted (take m rest) → m ≤ n + 2
    by m le (alone h) =
        let size : length (take m rest) ≡ m = length-take-le m rest le in
        let one : length (take m rest) ≡ 1 = ap (λ (z : List ℕ). length z) h in
        omega arith
    by m le (string inner h) =
        let size : length (take m rest) ≡ m = length-take-le m rest le in
        let written : length (take m rest) ≡ suc (length (inner ++ 34 ∷ [])) = ap (λ (z : List ℕ). length z) h.written in
        let cut : rest ≡ take m rest ++ drop m rest = sym (take-append-drop m rest) in
        let behind_is : behind ≡ inner ++ 34 ∷ drop m rest = (heads (sym e ∙ cut ∙ ap (λ (z : List ℕ). z ++ drop m rest) h.written)).1 ∙ append_assoc inner (34 ∷ []) (drop m rest) in
        let mine : behind ≡ take n behind ++ 34 ∷ drop (n + 1) behind = sym (take-append-drop n behind) ∙ ap (λ (z : List ℕ). take n behind ++ z) (drop_more behind n 0 lt ∙ ap (λ (b : ℕ). b ∷ drop (n + 1) behind) q) in
        let same : length inner ≡ length (take n behind) = inside_same inner (take n behind) (drop m rest) (drop (n + 1) behind) (sym behind_is ∙ mine) h.inside i in
        let small : length (take n behind) ≡ n = length-take-le n behind (omega arith) in
        omega (arith, length-append inner (34 ∷ []))

    go : (m : ℕ) → m ≤ length rest → Shape (take m rest) → m ≤ n + 2
    go zero le x = omega arith
    go (suc m) le x = by (suc m) le (quotes_only (take (suc m) rest) x (front_class rest (suc m) (omega arith) x ∙ byte_class (slice_index rest 0) 34 (ap (λ (z : List ℕ). slice_index z 0) e)))

pub quote_longest : (rest behind : List ℕ) → rest ≡ 34 ∷ behind → Unclosed behind → Longest rest 1
quote_longest rest behind e u = record {
  within = (let size : length rest ≡ length (34 ∷ behind) = ap (λ (z : List ℕ). length z) e in omega arith);
  shaped = s.quote (ap (take 1) e);
  longest = λ m le x. go m le x;
}
  where
    by : (m : ℕ) → m ≤ length rest → Quoted (take m rest) → m ≤ 1
    by m le (alone h) =
        let size : length (take m rest) ≡ m = length-take-le m rest le in
        let one : length (take m rest) ≡ 1 = ap (λ (z : List ℕ). length z) h in
        omega arith
    by m le (string inner h) =
        let cut : rest ≡ take m rest ++ drop m rest = sym (take-append-drop m rest) in
        let behind_is : behind ≡ inner ++ 34 ∷ drop m rest = (heads (sym e ∙ cut ∙ ap (λ (z : List ℕ). z ++ drop m rest) h.written)).1 ∙ append_assoc inner (34 ∷ []) (drop m rest) in
        absurd (u inner (drop m rest) behind_is h.inside)

    go : (m : ℕ) → m ≤ length rest → Shape (take m rest) → m ≤ 1
    go zero le x = omega arith
    go (suc m) le x = by (suc m) le (quotes_only (take (suc m) rest) x (front_class rest (suc m) (omega arith) x ∙ byte_class (slice_index rest 0) 34 (ap (λ (z : List ℕ). slice_index z 0) e)))
