-- The words of a seed, and a line for each.
use Rattle.std.proofs.Common.{◌≡◌, ℕ, zero, suc, ◌+◌, ◌-◌, ◌<◌, ◌≤◌, ◌%◌, List, [], ◌∷◌, map, refl, ap, sym, append_assoc, ◌++◌, ◌∙◌, arith}
use Rattle.rand_core.specs.Steps.{first_words}
use Rattle.rand_pcg.specs.Lcg.{Lcg}
use Rattle.rand_pcg.specs.Pcg.{pcg32}
use Rattle.replay.specs.declared.line.Line.{Line}
use Rattle.replay.specs.Seeds.{one_step}

-- one more word, and those of the generator after it
one_word : (a b : ℕ) (g : Lcg) → a ≡ suc b → first_words pcg32 a g ≡ (pcg32 g).0 ∷ first_words pcg32 b (pcg32 g).1
unfolding first_words
one_word zero b g e = absurd (omega (arith, e))
one_word (suc a) b g e =
    let same : a ≡ b = omega (arith, e) in ap (λ k. (pcg32 g).0 ∷ first_words pcg32 k (pcg32 g).1) same

no_word : (a : ℕ) (g : Lcg) → a ≡ 0 → first_words pcg32 a g ≡ []
unfolding first_words
no_word zero g e = refl
no_word (suc a) g e = absurd (omega (arith, e))

-- the lines of the words from here on
abbrev pub lines_from : ℕ → ℕ → Lcg → List Line
lines_from t n g = map (λ w. one_step (w % t)) (first_words pcg32 n g)

pub lines_step : (t n i : ℕ) (g : Lcg) → i < n → lines_from t (n - i) g ≡ one_step ((pcg32 g).0 % t) ∷ lines_from t (n - (i + 1)) (pcg32 g).1
lines_step t n i g h = ap (map (λ w. one_step (w % t))) (one_word (n - i) (n - (i + 1)) g (omega arith))

pub lines_done : (t n i : ℕ) (g : Lcg) → n ≤ i → lines_from t (n - i) g ≡ []
lines_done t n i g h = ap (map (λ w. one_step (w % t))) (no_word (n - i) g (omega arith))

-- a turn of the loop: all lines are those pushed so far and those of the words still to come
pub lines_pushed : (t n i : ℕ) (g after : Lcg) (w : ℕ) (all xs ys : List Line) → i < n → (w, after) ≡ pcg32 g → all ≡ xs ++ lines_from t (n - i) g → ys ≡ xs ++ one_step (w % t) ∷ [] → all ≡ ys ++ lines_from t (n - (i + 1)) after
lines_pushed t n i g after w all xs ys h is so_far pushed =
    let rest : Lcg → List Line = lines_from t (n - (i + 1)) in
    let moved : xs ++ one_step ((pcg32 g).0 % t) ∷ rest (pcg32 g).1 ≡ xs ++ one_step (w % t) ∷ rest after = ap (λ (p : ℕ × Lcg). xs ++ one_step (p.0 % t) ∷ rest p.1) (sym is) in
    so_far ∙ ap (λ zs. xs ++ zs) (lines_step t n i g h) ∙ moved ∙ sym (append_assoc xs (one_step (w % t) ∷ []) (rest after)) ∙ ap (λ zs. zs ++ rest after) (sym pushed)
