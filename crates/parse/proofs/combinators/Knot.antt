-- A parser that calls itself at a smaller depth.
use Rattle.std.proofs.Common.{◌≡◌, ℕ, suc, ◌+◌, ◌-◌, Bool, true, false, List, [], ◌∷◌, ◌++◌, Option, Some, None, Result, Ok, Err, refl, sym, ap, ◌∙◌, arith, ◌⊎◌, inl, inr}
use Rattle.lex.specs.Tokens.{Tok}
use Rattle.syntax.specs.Phrases.{Phrase, Begins}
use Rattle.parse.specs.inner.Reading.{Fault, wrong, deep, Parser, head}
use Rattle.parse.proofs.combinators.Exact.{Reads, Refuses, FailsTooDeep, Exact, err_is}

module _ {A : Type 0} (P F : ℕ → Parser A) (L : A → Phrase) (W : ℕ → A → Type 0) (S C : A → Option Tok → Type 0) (start : (D b : ℕ) (ts : List Tok) → b + 1 ≡ D → P D ts ≡ F b ts) where
  -- one depth more
  pub knot_exact : (d : ℕ) → Exact F L (λ D. W (suc D)) S C d → Exact P L W S C (suc d)
  knot_exact d E = record {
    again = λ x p q l w h. start (suc d) d (p ++ q) (omega arith) ∙ E.again x p q l w h;
    ok = λ ts x r e.
        let R = E.ok ts x r (sym (start (suc d) d ts (omega arith)) ∙ e) in
        record { front = R.front; whole = R.whole; spelled = R.spelled; within = R.within; closed = R.closed; stable = λ D s le h. start D (D - 1) (R.front ++ s) (omega arith) ∙ R.stable (D - 1) s (omega arith) h };
    wrong = λ ts r e.
        let R = E.wrong ts r (sym (start (suc d) d ts (omega arith)) ∙ e) in
        record { front = R.front; whole = R.whole; begins = R.begins; stable = λ D s le h. start D (D - 1) (R.front ++ s) (omega arith) ∙ R.stable (D - 1) s (omega arith) h };
    deep = λ ts r e.
        let R = E.deep ts r (sym (start (suc d) d ts (omega arith)) ∙ e) in
        record { front = R.front; whole = R.whole; at = R.at; after = R.after; here = R.here; begins = R.begins; stable = λ s h. start (suc d) d (R.front ++ s) (omega arith) ∙ R.stable s h };
  }

  module _ (starts : Option Tok → Bool)
      (stops : (D : ℕ) (ts : List Tok) → starts (head ts) ≡ false → P D ts ≡ Err (wrong ts))
      (too_deep : (ts : List Tok) → starts (head ts) ≡ true → P 0 ts ≡ Err (deep ts))
      (begins : (t : Tok) → starts (Some t) ≡ true → Begins L (t ∷ []))
      (none : starts None ≡ false)
      (positive : (x : A) → W 0 x → ⊥) where
    test : (b : Bool) → (b ≡ true) ⊎ (b ≡ false)
    test true = inl refl
    test false = inr refl

    no_both : {X : Type 0} (r : Result X Fault) (x : X) (f : Fault) → r ≡ Ok x → r ≡ Err f → ⊥
    no_both r x f p q = cc

    apart : {X : Type 0} (a : Result X Fault) (x y : List Tok) → a ≡ Err (wrong x) → a ≡ Err (deep y) → ⊥
    apart a x y p q = cc

    wrongs : {X : Type 0} (a : Result X Fault) (x y : List Tok) → a ≡ Err (wrong x) → a ≡ Err (wrong y) → x ≡ y
    wrongs a x y p q = let h : wrong x ≡ wrong y = err_is (wrong x) (wrong y) a p q in cc

    deeps : {X : Type 0} (a : Result X Fault) (x y : List Tok) → a ≡ Err (deep x) → a ≡ Err (deep y) → x ≡ y
    deeps a x y p q = let h : deep x ≡ deep y = err_is (deep x) (deep y) a p q in cc

    base_ok : (ts : List Tok) (x : A) (r : List Tok) → P 0 ts ≡ Ok (x, r) → Reads P L W C 0 ts x r
    base_ok ts x r e = elim (test (starts (head ts))) [
      | inl h ↦ absurd (no_both (P 0 ts) (x, r) (deep ts) e (too_deep ts h))
      | inr h ↦ absurd (no_both (P 0 ts) (x, r) (wrong ts) e (stops 0 ts h))
    ]

    base_wrong : (ts r : List Tok) → P 0 ts ≡ Err (wrong r) → (starts (head ts) ≡ true) ⊎ (starts (head ts) ≡ false) → Refuses P L W C 0 ts r
    base_wrong ts r e (inl h) = absurd (apart (P 0 ts) r ts e (too_deep ts h))
    base_wrong ts r e (inr h) =
        let same = wrongs (P 0 ts) ts r (stops 0 ts h) e in
        record { front = []; whole = same; begins = λ n. absurd n; stable = λ D s le heads. stops D s (ap starts (sym (ap head same ∙ heads)) ∙ h) }

    base_deep : (ts r : List Tok) → P 0 ts ≡ Err (deep r) → (starts (head ts) ≡ true) ⊎ (starts (head ts) ≡ false) → FailsTooDeep P L W C 0 ts r
    base_deep [] r e (inl h) = absurd (let bad = sym h ∙ none in true_false bad)
      where
        true_false : true ≡ false → ⊥
        true_false h = cc
    base_deep (t ∷ ts) r e (inl h) =
        let same = deeps (P 0 (t ∷ ts)) (t ∷ ts) r (too_deep (t ∷ ts) h) e in
        record { front = []; whole = same; at = t; after = ts; here = sym same; begins = begins t h; stable = λ s heads. too_deep s (ap starts (sym (ap head same ∙ heads)) ∙ h) }
    base_deep ts r e (inr h) = absurd (apart (P 0 ts) ts r (stops 0 ts h) e)

    -- depth 0
    pub base_exact : Exact P L W S C 0
    base_exact = record {
      again = λ x p q l w h. absurd (positive x w);
      ok = base_ok;
      wrong = λ ts r e. base_wrong ts r e (test (starts (head ts)));
      deep = λ ts r e. base_deep ts r e (test (starts (head ts)));
    }
