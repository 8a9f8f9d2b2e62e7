-- The first fault of a list, one by one.
use Rattle.std.proofs.Common.{◌≡◌, ℕ, ◌+◌, ◌<◌, List, length, map, drop, get_or, sym, ap, ◌∙◌, Option, Some, None, is_some, true, false}
use Rattle.std.specs.List.{flat_map}
use Rattle.std.specs.Option.{option_or}
use Rattle.std.proofs.lemmas.List.{at_drop_more}
use Rattle.syntax.specs.Tree.{Span}
use Rattle.syntax.specs.Typing.{Demand, first_unmet}
use Rattle.syntax.proofs.typing.Demands.{first_of_two}

-- the first of those that are left, and then the rest
pub more_at : {X Y : Type 0} (see : X → Y) (demands : Y → List Demand) (xs : List X) (i : ℕ) (x : X) → i < length xs → first_unmet (flat_map demands (map see (drop i xs))) ≡ option_or (first_unmet (demands (see (get_or xs i x)))) (first_unmet (flat_map demands (map see (drop (i + 1) xs))))
more_at see demands xs i x h =
    let rest = flat_map demands (map see (drop (i + 1) xs)) in
    at_drop_more (λ ys. first_unmet (flat_map demands (map see ys))) xs i x h ∙ first_of_two (demands (see (get_or xs i x))) rest

pub more : {X Y : Type 0} (see : X → Y) (demands : Y → List Demand) (xs : List X) (i : ℕ) (x : X) → x ≡ get_or xs i x → i < length xs → first_unmet (flat_map demands (map see (drop i xs))) ≡ option_or (first_unmet (demands (see x))) (first_unmet (flat_map demands (map see (drop (i + 1) xs))))
more see demands xs i x is h =
    more_at see demands xs i x h ∙ ap (λ y. option_or (first_unmet (demands (see y))) (first_unmet (flat_map demands (map see (drop (i + 1) xs))))) (sym is)

-- what is found is the first of all, and where nothing is found the rest is all
module _ {B : Type 0} (unmet_in : Option B → Option (ℕ × Span)) (none : unmet_in None ≡ None) (some : (b : B) → (at : ℕ × Span) × (unmet_in (Some b) ≡ Some at)) where
  pub found_first : (o : Option B) (here rest all : Option (ℕ × Span)) → is_some o ≡ true → all ≡ option_or here rest → unmet_in o ≡ here → unmet_in o ≡ all
  found_first None here rest all e a h = absurd cc
  found_first (Some b) here rest all e a h = some_is (some b) ∙ sym (a ∙ ap (λ x. option_or x rest) (sym h ∙ some_is (some b)))
    where
      some_is : (s : (at : ℕ × Span) × (unmet_in (Some b) ≡ Some at)) → unmet_in (Some b) ≡ Some s.0
      some_is s = s.1

  pub found_later : (o : Option B) (here rest all : Option (ℕ × Span)) → is_some o ≡ false → all ≡ option_or here rest → unmet_in o ≡ here → rest ≡ all
  found_later None here rest all e a h = sym (a ∙ ap (λ x. option_or x rest) (sym h ∙ none))
  found_later (Some b) here rest all e a h = absurd cc
