-- What cannot begin a phrase is refused at its first token.
use Rattle.std.proofs.Common.{◌≡◌, ℕ, Bool, true, false, List, [], ◌∷◌, ◌++◌, Option, Result, Ok, Err, refl, sym, ap, subst, ◌∙◌, append_assoc}
use Rattle.lex.specs.Tokens.{Tok}
use Rattle.syntax.specs.Phrases.{Phrase, Seq, Begins}
use Rattle.parse.specs.inner.Reading.{Fault, wrong, deep, Parser, head}
use Rattle.parse.proofs.combinators.Exact.{Nonempty, Exact}

pub true_not_false : {b : Bool} → b ≡ true → b ≡ false → ⊥
true_not_false p q = cc

-- what is known of the first token of the first part
pub first_of : {L M : Phrase} (Q : Option Tok → Type 0) (p q : List Tok) → Seq L M p → ((r s : List Tok) → L r → Q (head (r ++ s))) → Q (head (p ++ q))
first_of Q p q l first = subst (λ (z : List Tok). Q (head z)) (sym (ap (λ (z : List Tok). z ++ q) l.whole ∙ append_assoc l.front l.back q)) (first l.front (l.back ++ q) l.first)

module _ {A : Type 0} (P : ℕ → Parser A) (L : A → Phrase) (W : ℕ → A → Type 0) (S C : A → Option Tok → Type 0) (d : ℕ) (E : Exact P L W S C d) (test : Option Tok → Bool)
    (first : (x : A) (p q : List Tok) → L x p → test (head (p ++ q)) ≡ true) where
  begun_starts : (p q : List Tok) → Nonempty p → Begins L p → test (head (p ++ q)) ≡ true
  begun_starts [] q n b = absurd n
  begun_starts (t ∷ p) q n b = first b.value ((t ∷ p) ++ b.more) [] b.spelled

  refused : (ts front r : List Tok) → test (head ts) ≡ false → ts ≡ front ++ r → (Nonempty front → Begins L front) → P d ts ≡ Err (wrong r) → P d ts ≡ Err (wrong ts)
  refused ts [] r h e b is = is ∙ ap (λ (z : List Tok). Err (wrong z)) (sym e)
  refused ts (t ∷ front) r h e b is = absurd (true_not_false (ap (λ (z : List Tok). test (head z)) e ∙ begun_starts (t ∷ front) r tt (b tt)) h)

  stops_as : (ts : List Tok) (a : Result (A × List Tok) Fault) → test (head ts) ≡ false → P d ts ≡ a → P d ts ≡ Err (wrong ts)
  stops_as ts (Ok x) h is =
      let R = E.ok ts x.0 x.1 is in
      absurd (true_not_false (ap (λ (z : List Tok). test (head z)) R.whole ∙ first x.0 R.front x.1 R.spelled) h)
  stops_as ts (Err (wrong r)) h is =
      let R = E.wrong ts r is in
      refused ts R.front r h R.whole R.begins is
  stops_as ts (Err (deep r)) h is =
      let R = E.deep ts r is in
      absurd (true_not_false (ap (λ (z : List Tok). test (head z)) (R.whole ∙ ap (λ (z : List Tok). R.front ++ z) R.here) ∙ begun R.front R.at R.after R.begins) h)
    where
      begun : (front : List Tok) (t : Tok) (after : List Tok) → Begins L (front ++ t ∷ []) → test (head (front ++ (t ∷ after))) ≡ true
      begun [] t after b = begun_starts (t ∷ []) after tt b
      begun (u ∷ front) t after b = begun_starts (u ∷ (front ++ t ∷ [])) after tt b

  pub stops_is : (ts : List Tok) → test (head ts) ≡ false → P d ts ≡ Err (wrong ts)
  stops_is ts h = stops_as ts (P d ts) h refl

pub stops_exact : {A : Type 0} {P : ℕ → Parser A} {L : A → List Tok → Type 0} {W : ℕ → A → Type 0} {S C : A → Option Tok → Type 0} {d : ℕ} (test : Option Tok → Bool)
    → Exact P L W S C d → ((x : A) (p q : List Tok) → L x p → test (head (p ++ q)) ≡ true) → (ts : List Tok) → test (head ts) ≡ false → P d ts ≡ Err (wrong ts)
stops_exact {P = P} {L = L} {W = W} {S = S} {C = C} {d = d} test E first = stops_is P L W S C d E test first
