-- Tokens that are written one after another.
use Rattle.std.proofs.Common.{◌≡◌, ◌∙◌, ℕ, zero, suc, ◌+◌, ◌<◌, Result, Ok, List, [], ◌∷◌, ◌++◌, map, drop, length, get_or, append_assoc, sym, ap, subst, arith}
use Rattle.std.specs.Prelude.{OnOk, flat_map}
use Rattle.std.specs.List.{range_with_len}
use Rattle.std.proofs.lemmas.Grind.{flat_map-append}
use Rattle.std.proofs.lemmas.List.{append-nil}
use Rattle.std.proofs.lemmas.List.Concat.{flat_map-cons}
use Rattle.std.proofs.lemmas.List.FromFn.{map-range_with_len_more}
use Rattle.std.proofs.lemmas.Result.{on_ok_weaker}
use Rattle.std.proofs.Math.Seq.{drop-cons}
use Rattle.json.specs.Token.{Token}
use Rattle.json.specs.Written.{Writes, Written}
use Rattle.pages.specs.Data.{Appends}

-- some, and then others
pub followed : {a b c : Written} {xs ys : List Token} → Appends a b xs → Appends b c ys → Appends a c (xs ++ ys)
followed {a} {b} {c} {xs} {ys} first next = record {
  before = next.before ∙ first.before;
  tokens = next.tokens ∙ ap (λ l. l ++ ys) first.tokens ∙ append_assoc a.tokens xs ys;
}

-- the same in other words
pub same_tokens : {a b : Written} (xs ys : List Token) → xs ≡ ys → Appends a b xs → Appends a b ys
same_tokens {a} xs ys same w = record { before = w.before; tokens = w.tokens ∙ ap (λ l. a.tokens ++ l) same }

-- a token
pub token_put : {E : Type 0} (r : Result (Unit {0}) E) (a b : Written) (t : Token) → Writes r a b t → OnOk r (Appends a b (t ∷ []))
token_put r a b t w = on_ok_weaker r (λ tokens. record { before = w.room.0; tokens = tokens }) w.ok

pub written : {E : Type 0} {u : Unit {0}} {a b : Written} {t : Token} → Writes {E = E} (Ok u) a b t → Appends a b (t ∷ [])
written w = record { before = w.room.0; tokens = w.ok }

-- tokens of a text, of a number
pub with_text : {a b : Written} (f : List ℕ → List Token) (x y : List ℕ) → x ≡ y → Appends a b (f x) → Appends a b (f y)
with_text {a} {b} f x y same w = subst (λ z. Appends a b (f z)) same w

pub with_number : {a b : Written} (f : ℕ → List Token) (x y : ℕ) → x ≡ y → Appends a b (f x) → Appends a b (f y)
with_number {a} {b} f x y same w = subst (λ z. Appends a b (f z)) same w

-- tokens, and then one that is the last
pub then_token : {E : Type 0} (r : Result (Unit {0}) E) {a b c : Written} {xs : List Token} (t : Token) → Appends a b xs → Writes r b c t → OnOk r (Appends a c (xs ++ t ∷ []))
then_token r {a} {b} {c} t first w = on_ok_weaker r (followed first) (token_put r b c t w)

-- ---- loops over lists

module _ {Y Z : Type 0} (h : Y → List Token) (g : Z → Y) where
  split : (xs : List Z) (k : ℕ) (e : Z) → k < length xs → drop k xs ≡ get_or xs k e ∷ drop (k + 1) xs
  split xs k e less = let same : suc k ≡ k + 1 = omega arith in drop-cons xs k e less ∙ ap (λ n. get_or xs k e ∷ drop n xs) same

  -- the tokens so far and those to come make up the whole, after one more element
  pub next_listed : (zs : List Z) (i : ℕ) (d : Z) (a b : Written) (whole : List Token) → i < length zs → a.tokens ++ flat_map h (map g (drop i zs)) ≡ whole → Appends a b (h (g (get_or zs i d))) → b.tokens ++ flat_map h (map g (drop (i + 1) zs)) ≡ whole
  next_listed zs i d a b whole lt was new =
      let rest = flat_map h (map g (drop (i + 1) zs)) in
      let one = h (g (get_or zs i d)) in
      ap (λ l. l ++ rest) new.tokens ∙ append_assoc a.tokens one rest
      ∙ sym (ap (λ l. a.tokens ++ l) (ap (λ l. flat_map h (map g l)) (split zs i d lt) ∙ flat_map-cons h (g (get_or zs i d)) (map g (drop (i + 1) zs)))) ∙ was

-- ---- loops over numbers

range_more : (a n j : ℕ) → a + n ≡ j → range_with_len a (n + 1) ≡ range_with_len a n ++ j ∷ []
range_more a zero j e = let same : a ≡ j = omega (arith, e) in ap (λ k. k ∷ []) same
range_more a (suc n) j e =
    let size : suc n + 1 ≡ suc (n + 1) = omega arith in
    ap (range_with_len a) size ∙ ap (λ l. a ∷ l) (range_more (a + 1) n j (omega (arith, e)))

pub next_numbered : (f : ℕ → List Token) (n : ℕ) {a b c : Written} → Appends a b (flat_map f (range_with_len 0 n)) → Appends b c (f n) → Appends a c (flat_map f (range_with_len 0 (n + 1)))
next_numbered f n was new =
    same_tokens (flat_map f (range_with_len 0 n) ++ f n) (flat_map f (range_with_len 0 (n + 1)))
    (sym (ap (flat_map f) (range_more 0 n n (omega arith)) ∙ flat_map-append f (range_with_len 0 n) (n ∷ []) ∙ ap (λ l. flat_map f (range_with_len 0 n) ++ l) (flat_map-cons f n [] ∙ append-nil (f n))))
    (followed was new)

pub next_counted : (f : ℕ → Token) (n : ℕ) {a b c : Written} → Appends a b (map f (range_with_len 0 n)) → Appends b c (f n ∷ []) → Appends a c (map f (range_with_len 0 (n + 1)))
next_counted f n was new =
    same_tokens (map f (range_with_len 0 n) ++ f n ∷ []) (map f (range_with_len 0 (n + 1)))
    (sym (map-range_with_len_more f 0 n n (omega arith))) (followed was new)
