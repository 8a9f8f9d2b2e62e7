-- The words of a table that is closed.
use Rattle.std.proofs.Common.{add-one, take, drop, ◌≡◌, ◌≤◌, ℕ, zero, suc, ◌+◌, List, [], ◌∷◌, ◌++◌, length, sym, ap, ◌∙◌, subst, refl, arith}
use Rattle.shared_words.specs.Setup.{Setup}
use Rattle.shared_words.specs.Views.{Views}
use Rattle.shared_words.specs.Rule.{IsRuled, LeavesCells, SeatView}
use mathlib.Core.Option.{some, some-ne-none, some-injective}
use lib.ListN.{get_elem?}

take_next : (n : ℕ) (l : List ℕ) (x : ℕ) → get_elem? l n ≡ some x → take (n + 1) l ≡ take n l ++ x ∷ []
take_next n l x e = rw add-one (next n l e)
  where
    next : (n : ℕ) (l : List ℕ) → get_elem? l n ≡ some x → take (suc n) l ≡ take n l ++ x ∷ []
    next n [] e = absurd (some-ne-none x (sym e))
    next zero (y ∷ ys) e = ap (λ (z : ℕ). z ∷ []) (some-injective y x e)
    next (suc n) (y ∷ ys) e = ap (λ (l : List ℕ). y ∷ l) (next n ys e)

pub next_cell : (n : ℕ) (words cells : List ℕ) (x : ℕ) → cells ≡ take n (drop 1 words) → get_elem? words (n + 1) ≡ some x → cells ++ x ∷ [] ≡ take (n + 1) (drop 1 words)
next_cell n words cells x is e = ap (λ (l : List ℕ). l ++ x ∷ []) is ∙ sym (take_next n (drop 1 words) x (tail_at n words x (subst (λ (k : ℕ). get_elem? words k ≡ some x) (add-one n) e)))
  where
    tail_at : (n : ℕ) (words : List ℕ) (x : ℕ) → get_elem? words (suc n) ≡ some x → get_elem? (drop 1 words) n ≡ some x
    tail_at n [] x e = absurd (some-ne-none x (sym e))
    tail_at n (w ∷ ws) x e = e

take_whole : (n : ℕ) (l : List ℕ) → length l ≤ n → take n l ≡ l
take_whole zero [] h = refl
take_whole (suc n) [] h = refl
take_whole zero (x ∷ xs) h = absurd (omega arith)
take_whole (suc n) (x ∷ xs) h = ap (λ (l : List ℕ). x ∷ l) (take_whole n xs (omega arith))

pub cells_are : (n lock : ℕ) (words rest cells : List ℕ) → words ≡ lock ∷ rest → length words ≤ n + 1 → cells ≡ take n (drop 1 words) → rest ≡ cells
cells_are n lock words rest cells e h is =
    let len : length words ≡ suc (length rest) = ap length e in
    sym (is ∙ (ap (λ (l : List ℕ). take n (drop 1 l)) e ∙ take_whole n rest (omega arith)))

pub leaves : (key : Setup) (id : ℕ) (m : SeatView) (n : ℕ) (words : List ℕ) (views : Views) (cells : List ℕ) → IsRuled key words views → get_elem? views id ≡ some m.0 → length words ≤ n + 1 → cells ≡ take n (drop 1 words) → LeavesCells key id m cells
leaves key id m n words views cells rule at long is =
    let rest : rule.world.words ≡ cells = cells_are n rule.world.lock words rule.world.words cells rule.words_are long is in
    (rule.world.lock, views, subst (λ (ws : List ℕ). IsRuled key ws views) (rule.words_are ∙ ap (λ (cs : List ℕ). rule.world.lock ∷ cs) rest) rule, at)
