-- The words with which a program begins, added element by element.
use Rattle.std.proofs.Common.{◌≡◌, ℕ, ◌+◌, ◌<◌, List, [], ◌∷◌, ◌++◌, length, get_or, drop, refl, sym, ap, ◌∙◌, append_assoc}
use Rattle.std.proofs.lemmas.List.{at_drop_more}
use Rattle.syntax.specs.Tree.{Global}
use Rattle.syntax.specs.Names.{first_words, initial_from}

-- one element more: what it adds, and what the rest add
pub next : {X : Type 0} (adds : List X → List ℕ) (own : X → List ℕ) → ((x : X) (xs : List X) → adds (x ∷ xs) ≡ own x ++ adds xs) →
    (xs : List X) (i : ℕ) (x : X) (now new whole : List ℕ) → i < length xs → x ≡ get_or xs i x → new ≡ now ++ own x → now ++ adds (drop i xs) ≡ whole → new ++ adds (drop (i + 1) xs) ≡ whole
next adds own split xs i x now new whole h e pushed was =
    ap (λ ws. ws ++ adds (drop (i + 1) xs)) pushed
    ∙ append_assoc now (own x) (adds (drop (i + 1) xs))
    ∙ ap (λ ws. now ++ ws) (sym (split x (drop (i + 1) xs)) ∙ ap (λ y. adds (y ∷ drop (i + 1) xs)) e ∙ sym (at_drop_more adds xs i x h))
    ∙ was

-- the words of two lists of globals
pub initial_append : (gs hs : List Global) → initial_from (gs ++ hs) ≡ initial_from gs ++ initial_from hs
initial_append [] hs = refl
initial_append (g ∷ gs) hs = ap (λ ws. first_words g ++ ws) (initial_append gs hs) ∙ sym (append_assoc (first_words g) (initial_from gs) (initial_from hs))
