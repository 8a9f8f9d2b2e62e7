-- The items of a file, from one to the next.
use Rattle.std.proofs.Common.{◌≡◌, ℕ, ◌+◌, ◌<◌, List, ◌∷◌, length, map, drop, get_or, sym, ap, ◌∙◌}
use Rattle.std.proofs.lemmas.List.{drop_more}
use Rattle.syntax.specs.declared.tree.Item.{Item as OwnItem}
use Rattle.syntax.specs.Tree.{Item}
use Rattle.syntax.specs.Views.{item_of}

-- a function of the items that are left, opened at the first of them
pub items_more : {A Y : Type 0} (F : List Item → Y) (items : List (OwnItem A)) (i : ℕ) (item : OwnItem A) → i < length items → item ≡ get_or items i item → F (map item_of (drop i items)) ≡ F (item_of item ∷ map item_of (drop (i + 1) items))
items_more F items i item h is =
    ap (λ xs. F (map item_of xs)) (drop_more items i item h) ∙ ap (λ x. F (item_of x ∷ map item_of (drop (i + 1) items))) (sym is)
