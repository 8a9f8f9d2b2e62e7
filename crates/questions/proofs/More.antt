-- One line more, and words that are cut.
use Rattle.std.proofs.Common.{◌≡◌, ◌∙◌, ◌⊎◌, inl, inr, ◌+◌, ◌-◌, ◌<◌, ℕ, List, [], ◌∷◌, ◌++◌, Bor, get_or, length, map, take, refl, sym, ap, subst, arith}
use Rattle.std.proofs.lemmas.List.{append-nil, append_assoc, length-map, length-take-le, map_more, take-map}
use Rattle.questions.specs.Questions.{Text, asking, expected_by, expected_of, one_of_line, questions_from, without_expected, without_last, words_of}
use Rattle.questions.specs.declared.expected.Expected.{Expected}
use Rattle.questions.specs.declared.expected.Expected.TheVariants.{Fails, Traps, Stuck}

-- the questions of lines, and of one more
pub one_line_more : (n : ℕ) (ls : List Text) (l : Text) → questions_from n (ls ++ l ∷ []) ≡ questions_from n ls ++ one_of_line (n + length ls) (asking (words_of l))
one_line_more n [] l =
    let e : n ≡ n + 0 = omega arith in
    subst (λ k. questions_from n (l ∷ []) ≡ one_of_line k (asking (words_of l))) e (append-nil (one_of_line n (asking (words_of l))))
one_line_more n (x ∷ ls) l =
    let e : n + 1 + length ls ≡ n + length (x ∷ ls) = omega arith in
    ap (λ qs. one_of_line n (asking (words_of x)) ++ qs) (one_line_more (n + 1) ls l)
    ∙ sym (append_assoc (one_of_line n (asking (words_of x))) (questions_from (n + 1) ls) (one_of_line (n + 1 + length ls) (asking (words_of l))))
    ∙ ap (λ k. (one_of_line n (asking (words_of x)) ++ questions_from (n + 1) ls) ++ one_of_line k (asking (words_of l))) e

-- the last word says what is expected
pub last_says : (ws : List Text) (w : Text) → expected_by w ≡ expected_of (ws ++ w ∷ [])
last_says [] w = refl
last_says (x ∷ []) w = refl
last_says (x ∷ y ∷ ws) w = last_says (y ∷ ws) w

-- all words but the last one
pub cut_words : (ws : List (Bor Text)) (e : Expected) → e ≡ expected_of (map (λ w. w.now) ws) → without_last e (map (λ w. w.now) ws) ≡ take (length (map (λ w. w.now) ws) - 1) (map (λ w. w.now) ws) → map (λ w. w.now) (take (length ws - 1) ws) ≡ without_expected (map (λ w. w.now) ws)
cut_words ws e is cut =
    sym (take-map (λ w. w.now) (length ws - 1) ws)
    ∙ ap (λ k. take (k - 1) (map (λ w. w.now) ws)) (sym (length-map ws (λ w. w.now)))
    ∙ sym cut
    ∙ ap (λ x. without_last x (map (λ w. w.now) ws)) is

pub cut_by : (ws : List (Bor Text)) (e : Expected) → e ≡ expected_of (map (λ w. w.now) ws) → (e ≡ Fails) ⊎ ((e ≡ Traps) ⊎ (e ≡ Stuck)) → map (λ w. w.now) (take (length ws - 1) ws) ≡ without_expected (map (λ w. w.now) ws)
cut_by ws e is (inl other) = cut_words ws Fails (sym other ∙ is) refl
cut_by ws e is (inr (inl other)) = cut_words ws Traps (sym other ∙ is) refl
cut_by ws e is (inr (inr other)) = cut_words ws Stuck (sym other ∙ is) refl

-- the questions of lines so far, and of one more
pub next_line : (k : ℕ) (items : List (Bor Text)) (d : Bor Text) (number : ℕ) (old new found : List (ℕ × List Text)) → k < length items → number ≡ k → old ≡ questions_from 1 (map (λ p. p.now) (take k items)) → found ≡ one_of_line (number + 1) (asking (words_of (get_or items k d).now)) → new ≡ old ++ found → new ≡ questions_from 1 (map (λ p. p.now) (take (k + 1) items))
next_line k items d number old new found low is before one added =
    let lines = map (λ p. p.now) (take k items) in
    let line = (get_or items k d).now in
    let count : length lines ≡ k = length-map (take k items) (λ p. p.now) ∙ length-take-le k items (omega (arith, low)) in
    let place : number + 1 ≡ 1 + length lines = omega (arith, is, count) in
    added ∙ ap (λ qs. qs ++ found) before ∙ ap (λ qs. questions_from 1 lines ++ qs) (one ∙ ap (λ n. one_of_line n (asking (words_of line))) place)
    ∙ sym (one_line_more 1 lines line) ∙ ap (questions_from 1) (sym (map_more (λ p. p.now) items k d low))
