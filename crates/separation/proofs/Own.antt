-- The sites of a name, item by item.
use Rattle.std.proofs.Common.{◌≡◌, ℕ, ◌+◌, ◌<◌, List, ◌∷◌, ◌++◌, length, map, drop, get_or, refl, sym, ap, ◌∙◌}
use Rattle.std.specs.Option.{option_or}
use Rattle.std.proofs.lemmas.Grind.{flat_map-append}
use Rattle.std.proofs.lemmas.List.{at_drop_more}
use Rattle.syntax.specs.Tree.{Item, Defines, Shares}
use Rattle.syntax.specs.declared.tree.Item as Own
use Rattle.syntax.specs.Views.{item_of}
use Rattle.syntax.specs.Typing.{first_unmet}
use Rattle.syntax.proofs.typing.Demands.{first_of_two}
use Rattle.safety.specs.Sites.{sites_of}
use Rattle.safety.specs.Safe.{FunctionSet}
use Rattle.separation.specs.inner.OwnSites.{own_sites}
use Rattle.separation.specs.Touching.{demands_at, separation_demands}

sites_first : (x : Item) (items : List Item) (w : List ℕ) → sites_of (x ∷ items) w ≡ own_sites x w ++ sites_of items w
sites_first (Shares gs) items w = refl
sites_first (Defines f) items w = refl

-- an item, and then the rest
pub items_more : {A : Type 0} (touching : FunctionSet) (w : List ℕ) (xs : List (Own.Item A)) (i : ℕ) (x : Own.Item A) → x ≡ get_or xs i x → i < length xs → first_unmet (separation_demands touching (sites_of (map item_of (drop i xs)) w)) ≡ option_or (first_unmet (separation_demands touching (own_sites (item_of x) w))) (first_unmet (separation_demands touching (sites_of (map item_of (drop (i + 1) xs)) w)))
items_more touching w xs i x is h =
    let rest = map item_of (drop (i + 1) xs) in
    at_drop_more (λ ys. first_unmet (separation_demands touching (sites_of (map item_of ys) w))) xs i x h
    ∙ ap (λ y. first_unmet (separation_demands touching (sites_of (item_of y ∷ rest) w))) (sym is)
    ∙ ap (λ ss. first_unmet (separation_demands touching ss)) (sites_first (item_of x) rest w)
    ∙ ap first_unmet (flat_map-append (λ s. demands_at touching s s.construct) (own_sites (item_of x) w) (sites_of rest w))
    ∙ first_of_two (separation_demands touching (own_sites (item_of x) w)) (separation_demands touching (sites_of rest w))
