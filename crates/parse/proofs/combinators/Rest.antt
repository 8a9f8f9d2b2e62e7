-- What is read behind a first token that is known.
use Rattle.std.proofs.Common.{◌≡◌, ℕ, ◌≤◌, Bool, false, List, [], ◌∷◌, ◌++◌, Option, None, Ok, Err, sym, ap, subst, arith}
use Rattle.lex.specs.Tokens.{Tok}
use Rattle.syntax.specs.Phrases.{Phrase, Begins}
use Rattle.parse.specs.inner.Reading.{wrong, deep, Parser, head}
use Rattle.parse.proofs.combinators.Exact.{Nonempty, Reads, Refuses, FailsTooDeep, Exact}

-- test: what may stand behind the token t
module _ {A : Type 0} (P : ℕ → Parser A) (L : A → Phrase) (W : ℕ → A → Type 0) (S C : A → Option Tok → Type 0) (d : ℕ) (E : Exact P L W S C d) (t : Tok) (test : Option Tok → Bool)
    (solid : (x : A) → L x [] → ⊥)
    (stops : (D : ℕ) (ts : List Tok) → test (head ts) ≡ false → P D (t ∷ ts) ≡ Err (wrong ts))
    (at_end : test None ≡ false) where
  abbrev rest : ℕ → Parser A
  rest D ts = P D (t ∷ ts)

  abbrev RestL : A → Phrase
  RestL x p = L x (t ∷ p)

  first_same : {u : Tok} {ts f : List Tok} → t ∷ ts ≡ u ∷ f → (t ≡ u) × (ts ≡ f)
  first_same e = (cc, cc)

  rest_ok : (ts : List Tok) (x : A) (r : List Tok) → rest d ts ≡ Ok (x, r) → Reads rest RestL W C d ts x r
  rest_ok ts x r e = let R = E.ok (t ∷ ts) x r e in go R.front R.whole R.spelled R.within R.closed R.stable
    where
      go : (f : List Tok) → t ∷ ts ≡ f ++ r → L x f → W d x → C x (head r) → ((D : ℕ) (s : List Tok) → d ≤ D → head r ≡ head s → P D (f ++ s) ≡ Ok (x, s)) → Reads rest RestL W C d ts x r
      go [] whole l w c stable = absurd (solid x l)
      go (u ∷ f) whole l w c stable =
          let same = first_same whole in
          record {
            front = f;
            whole = same.1;
            spelled = subst (λ (z : Tok). L x (z ∷ f)) (sym same.0) l;
            within = w;
            closed = c;
            stable = λ D s le h. subst (λ (z : Tok). P D (z ∷ (f ++ s)) ≡ Ok (x, s)) (sym same.0) (stable D s le h);
          }

  begins_behind : (u : Tok) (p : List Tok) → t ≡ u → Begins L (u ∷ p) → Begins RestL p
  begins_behind u p same b = record { value = b.value; more = b.more; spelled = subst (λ (z : Tok). L b.value (z ∷ (p ++ b.more))) (sym same) b.spelled }

  rest_wrong : (ts r : List Tok) → rest d ts ≡ Err (wrong r) → Refuses rest RestL W C d ts r
  rest_wrong ts r e = let R = E.wrong (t ∷ ts) r e in go R.front R.whole R.begins R.stable
    where
      apart : P d (t ∷ []) ≡ Err (wrong (t ∷ [])) → P d (t ∷ []) ≡ Err (wrong []) → ⊥
      apart p q = cc

      go : (f : List Tok) → t ∷ ts ≡ f ++ r → (Nonempty f → Begins L f) → ((D : ℕ) (s : List Tok) → d ≤ D → head r ≡ head s → P D (f ++ s) ≡ Err (wrong s)) → Refuses rest RestL W C d ts r
      go [] whole b stable = absurd (apart (stable d (t ∷ []) (omega arith) (ap head (sym whole))) (stops d [] at_end))
      go (u ∷ f) whole b stable =
          let same = first_same whole in
          record {
            front = f;
            whole = same.1;
            begins = λ n. begins_behind u f same.0 (b tt);
            stable = λ D s le h. subst (λ (z : Tok). P D (z ∷ (f ++ s)) ≡ Err (wrong s)) (sym same.0) (stable D s le h);
          }

  rest_deep : (ts r : List Tok) → rest d ts ≡ Err (deep r) → FailsTooDeep rest RestL W C d ts r
  rest_deep ts r e = let R = E.deep (t ∷ ts) r e in go R.front R.whole R.at R.after R.here R.begins R.stable
    where
      apart : P d (t ∷ []) ≡ Err (deep (t ∷ [])) → P d (t ∷ []) ≡ Err (wrong []) → ⊥
      apart p q = cc

      go : (f : List Tok) → t ∷ ts ≡ f ++ r → (at : Tok) (after : List Tok) → r ≡ at ∷ after → Begins L (f ++ at ∷ []) → ((s : List Tok) → head r ≡ head s → P d (f ++ s) ≡ Err (deep s)) → FailsTooDeep rest RestL W C d ts r
      go [] whole at after here b stable = absurd (apart (stable (t ∷ []) (ap head (sym whole))) (stops d [] at_end))
      go (u ∷ f) whole at after here b stable =
          let same = first_same whole in
          record {
            front = f;
            whole = same.1;
            at = at;
            after = after;
            here = here;
            begins = begins_behind u (f ++ at ∷ []) same.0 b;
            stable = λ s h. subst (λ (z : Tok). P d (z ∷ (f ++ s)) ≡ Err (deep s)) (sym same.0) (stable s h);
          }

  -- It is read exactly, where no phrase ends with the token, and nothing else may stand behind it.
  pub rest_is : Exact rest RestL W S C d
  rest_is = record { again = λ x p q l w h. E.again x (t ∷ p) q l w h; ok = rest_ok; wrong = rest_wrong; deep = rest_deep }

pub rest_exact : {A : Type 0} {P : ℕ → Parser A} {L : A → List Tok → Type 0} {W : ℕ → A → Type 0} {S C : A → Option Tok → Type 0} {d : ℕ} (t : Tok) (test : Option Tok → Bool)
    → Exact P L W S C d
    → ((x : A) → L x [] → ⊥)
    → ((D : ℕ) (ts : List Tok) → test (head ts) ≡ false → P D (t ∷ ts) ≡ Err (wrong ts))
    → test None ≡ false
    → Exact (λ D ts. P D (t ∷ ts)) (λ x p. L x (t ∷ p)) W S C d
rest_exact {P = P} {L = L} {W = W} {S = S} {C = C} {d = d} t test E solid stops at_end = rest_is P L W S C d E t test solid stops at_end
