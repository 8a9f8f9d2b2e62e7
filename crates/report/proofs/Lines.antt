-- One step of a loop that adds lines to a report.
use Rattle.std.proofs.Common.{◌≡◌, ◌∙◌, ℕ, suc, ◌+◌, ◌<◌, List, [], ◌∷◌, ◌++◌, map, length, drop, take, get_or, ap, ap₂, sym, append_assoc, add-one, drop-cons}
use Rattle.std.proofs.lemmas.List.{map-append, take_more}
use Rattle.std.specs.Prelude.{flat_map}
use Rattle.report.specs.Printed.{ThreadShown}
use Rattle.report.specs.Report.{thread_text, threads_text}

-- from an element on: the element, and what follows it
drop_here : {X : Type 0} (xs : List X) (i : ℕ) (x : X) → x ≡ get_or xs i x → i < length xs → drop i xs ≡ x ∷ drop (i + 1) xs
drop_here xs i x e h = rw (add-one, drop-cons xs i x) (ap (λ y. y ∷ drop (suc i) xs) (sym e))

-- one more line
pub next_line : {X Y : Type 0} (view : X → Y) (line : Y → List ℕ) (xs : List X) (i : ℕ) (x : X) (before now whole : List ℕ) → x ≡ get_or xs i x → i < length xs → before ++ flat_map line (map view (drop i xs)) ≡ whole → now ≡ before ++ line (view x) → now ++ flat_map line (map view (drop (i + 1) xs)) ≡ whole
next_line view line xs i x before now whole e h was new =
    let split = drop_here xs i x e h in
    let at_here = rw split at was in
    rw (new, append_assoc before) at_here

-- one more thread
pub next_thread : {X : Type 0} (view : X → ThreadShown) (xs : List X) (i : ℕ) (x : X) (before now whole : List ℕ) → x ≡ get_or xs i x → i < length xs → before ++ threads_text i (map view (drop i xs)) ≡ whole → now ≡ before ++ thread_text i (view x) → now ++ threads_text (i + 1) (map view (drop (i + 1) xs)) ≡ whole
next_thread view xs i x before now whole e h was new =
    let split = drop_here xs i x e h in
    let at_here = rw split at was in
    rw (new, append_assoc before) at_here

-- one more element, which is seen as one of another list is
pub one_more : {X Y Z : Type 0} (f : X → Z) (g : Y → Z) (xs : List X) (ys : List Y) (i : ℕ) (x : X) (y : Y) → y ≡ get_or ys i y → i < length ys → f x ≡ g y → map f xs ≡ map g (take i ys) → map f (xs ++ x ∷ []) ≡ map g (take (i + 1) ys)
one_more f g xs ys i x y at lt same was = map-append f xs (x ∷ []) ∙ ap₂ (λ zs z. zs ++ z ∷ []) was same ∙ sym (map-append g (take i ys) (y ∷ [])) ∙ ap (map g) (ap (λ z. take i ys ++ z ∷ []) at ∙ sym (take_more ys i y lt))
