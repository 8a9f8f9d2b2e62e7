-- The first of a list in which a transaction lies too deep, from one element to the next.
use Rattle.std.proofs.Common.{◌≡◌, ℕ, ◌+◌, ◌<◌, ◌≤◌, List, [], ◌∷◌, length, drop, get_or, sym, ap, ◌∙◌, Option, Some, None}
use Rattle.std.specs.Option.{option_or}
use Rattle.std.proofs.lemmas.List.{at_drop_more, drop_all}
use Rattle.syntax.specs.Tree.{Span}

module _ {X : Type 0} (deep : X → Option Span) (any : List X → Option Span) (more : (x : X) (xs : List X) → any (x ∷ xs) ≡ option_or (deep x) (any xs)) (xs : List X) (i : ℕ) (x : X) (whole : Option Span) where
  here : i < length xs → x ≡ get_or xs i x → any (drop i xs) ≡ option_or (deep x) (any (drop (i + 1) xs))
  here h is =
      at_drop_more any xs i x h
      ∙ more (get_or xs i x) (drop (i + 1) xs)
      ∙ ap (λ y. option_or (deep y) (any (drop (i + 1) xs))) (sym is)

  pub passed : i < length xs → x ≡ get_or xs i x → None ≡ deep x → any (drop i xs) ≡ whole → any (drop (i + 1) xs) ≡ whole
  passed h is none inv = ap (λ o. option_or o (any (drop (i + 1) xs))) none ∙ sym (here h is) ∙ inv

  pub found : (at : Span) → i < length xs → x ≡ get_or xs i x → Some at ≡ deep x → any (drop i xs) ≡ whole → Some at ≡ whole
  found at h is some inv = ap (λ o. option_or o (any (drop (i + 1) xs))) some ∙ sym (here h is) ∙ inv

pub none_found : {X : Type 0} (any : List X → Option Span) (xs : List X) (i : ℕ) (whole : Option Span) → any [] ≡ None → length xs ≤ i → any (drop i xs) ≡ whole → None ≡ whole
none_found any xs i whole none h inv = sym none ∙ sym (ap any (drop_all i xs h)) ∙ inv
