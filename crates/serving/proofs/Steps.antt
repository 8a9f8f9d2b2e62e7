-- One step of a loop that shows globals.
use Rattle.std.proofs.Common.{◌≡◌, ℕ, suc, ◌+◌, ◌<◌, List, [], ◌∷◌, ◌++◌, map, length, take, drop, get_or, refl, sym, ap, append_assoc, add-one, drop-cons}
use Rattle.syntax.specs.Tree.{Global, Item}
use Rattle.syntax.specs.Names.{cells, globals, shared_by}
use Rattle.report.specs.Printed.{Shown}
use Rattle.serving.specs.Shows.{shown_global, shown_globals}
use Rattle.serving.specs.inner.Words.{words_beyond}

-- from an element on: the element, and its successors
pub drop_here : {X : Type 0} (xs : List X) (i : ℕ) (x : X) → x ≡ get_or xs i x → i < length xs → drop i xs ≡ x ∷ drop (i + 1) xs
drop_here xs i x e h = rw (add-one, drop-cons xs i x) (ap (λ y. y ∷ drop (suc i) xs) (sym e))

-- one more global
pub next_global : {X : Type 0} (view : X → Global) (gs : List X) (i : ℕ) (g : X) (before now whole : List Shown) (words : List ℕ) → g ≡ get_or gs i g → i < length gs → before ++ shown_globals (map view (drop i gs)) words ≡ whole → now ≡ before ++ shown_global (view g) (take (cells (view g)) words) ∷ [] → now ++ shown_globals (map view (drop (i + 1) gs)) (drop (cells (view g)) words) ≡ whole
next_global view gs i g before now whole words e h was new =
    let split = drop_here gs i g e h in
    let at_here = rw split at was in
    rw (new, append_assoc before) at_here

-- the words after one more global's
pub next_rest : {X : Type 0} (view : X → Global) (gs : List X) (i : ℕ) (g : X) (words whole : List ℕ) → g ≡ get_or gs i g → i < length gs → words_beyond (map view (drop i gs)) words ≡ whole → words_beyond (map view (drop (i + 1) gs)) (drop (cells (view g)) words) ≡ whole
next_rest view gs i g words whole e h was = let split = drop_here gs i g e h in rw split at was

-- two lists of globals
pub shown_globals-append : (gs hs : List Global) (words : List ℕ) → shown_globals (gs ++ hs) words ≡ shown_globals gs words ++ shown_globals hs (words_beyond gs words)
shown_globals-append [] hs words = refl
shown_globals-append (g ∷ gs) hs words = ap (λ t. shown_global g (take (cells g) words) ∷ t) (shown_globals-append gs hs (drop (cells g) words))

-- one more item's globals
pub next_item : {X : Type 0} (view : X → Item) (items : List X) (i : ℕ) (item : X) (gs : List Global) (before now whole : List Shown) (words : List ℕ) → item ≡ get_or items i item → i < length items → shared_by (view item) ≡ gs → before ++ shown_globals (globals (map view (drop i items))) words ≡ whole → now ≡ before ++ shown_globals gs words → now ++ shown_globals (globals (map view (drop (i + 1) items))) (words_beyond gs words) ≡ whole
next_item view items i item gs before now whole words e h shared was new =
    let split = drop_here items i item e h in
    let at_here = rw (split, shown_globals-append (shared_by (view item)) (globals (map view (drop (i + 1) items))) words) at was in
    rw (new, append_assoc before, ← shared) at_here
