-- One step of a loop that adds lines to a trace, or goes over turns.
use Rattle.std.proofs.Common.{◌≡◌, ℕ, suc, ◌+◌, ◌<◌, true, false, List, [], ◌∷◌, ◌++◌, map, length, drop, get_or, ap, sym, refl, append_assoc, add-one, drop-cons, ◌≤◌, ◌-◌, take, take_all, length-drop, arith}
use Rattle.std.specs.Prelude.{flat_map}
use Rattle.traces.specs.Trace.{are_blanks, trimmed}

-- from an element on: the element, and what follows it
pub drop_here : {X : Type 0} (xs : List X) (i : ℕ) (x : X) → x ≡ get_or xs i x → i < length xs → drop i xs ≡ x ∷ drop (i + 1) xs
drop_here xs i x e h = rw (add-one, drop-cons xs i x) (ap (λ y. y ∷ drop (suc i) xs) (sym e))

-- one more line
pub next_line : {X Y : Type 0} (view : X → Y) (line : Y → List ℕ) (xs : List X) (i : ℕ) (x : X) (before now whole : List ℕ) → x ≡ get_or xs i x → i < length xs → before ++ flat_map line (map view (drop i xs)) ≡ whole → now ≡ before ++ line (view x) → now ++ flat_map line (map view (drop (i + 1) xs)) ≡ whole
next_line view line xs i x before now whole e h was new =
    let split = drop_here xs i x e h in
    let at_here = rw split at was in
    rw (new, append_assoc before) at_here

-- one more line that is counted
pub next_counted : {X Y : Type 0} (view : X → Y) (line : ℕ → Y → List ℕ) (lines : ℕ → List Y → List ℕ) → ((n : ℕ) (y : Y) (ys : List Y) → lines n (y ∷ ys) ≡ line n y ++ lines (n + 1) ys) → (xs : List X) (i n : ℕ) (x : X) (before now whole : List ℕ) → x ≡ get_or xs i x → i < length xs → before ++ lines n (map view (drop i xs)) ≡ whole → now ≡ before ++ line n (view x) → now ++ lines (n + 1) (map view (drop (i + 1) xs)) ≡ whole
next_counted view line lines cons xs i n x before now whole e h was new =
    let split = drop_here xs i x e h in
    let at_here = rw (split, cons n (view x) (map view (drop (i + 1) xs))) at was in
    rw (new, append_assoc before) at_here

-- pieces, each added after those before
pub two_joined : (before one two a b : List ℕ) → one ≡ before ++ a → two ≡ one ++ b → two ≡ before ++ (a ++ b)
two_joined before one two a b first second = rw (second, first) (simp append_assoc)

pub three_joined : (before one two three a b c : List ℕ) → one ≡ before ++ a → two ≡ one ++ b → three ≡ two ++ c → three ≡ before ++ (a ++ (b ++ c))
three_joined before one two three a b c first second third = rw (third, second, first) (simp append_assoc)

-- one more line that has a number of its own
pub next_numbered : {X Y : Type 0} (view : X → Y) (line : ℕ → Y → List ℕ) (after : ℕ → Y → ℕ) (lines : ℕ → List Y → List ℕ) → ((n : ℕ) (y : Y) (ys : List Y) → lines n (y ∷ ys) ≡ line n y ++ lines (after n y) ys) → (xs : List X) (i n m : ℕ) (x : X) (before now whole : List ℕ) → x ≡ get_or xs i x → i < length xs → before ++ lines n (map view (drop i xs)) ≡ whole → now ≡ before ++ line n (view x) → m ≡ after n (view x) → now ++ lines m (map view (drop (i + 1) xs)) ≡ whole
next_numbered view line after lines cons xs i n m x before now whole e h was new next =
    let split = drop_here xs i x e h in
    let at_here = rw (split, cons n (view x) (map view (drop (i + 1) xs))) at was in
    rw (new, next, append_assoc before) at_here

-- a slice from an element on is what follows it
pub rest_taken : (xs : List ℕ) (i : ℕ) → take (length xs - i) (drop i xs) ≡ drop i xs
rest_taken xs i =
    let same = length-drop i xs in
    let all : length (drop i xs) ≤ length xs - i = omega (arith, same) in
    take_all (length xs - i) (drop i xs) all

-- nothing is left of blanks
pub all_trimmed : (xs : List ℕ) → are_blanks xs ≡ true → trimmed xs ≡ []
all_trimmed [] e = refl
all_trimmed (x ∷ xs) e = rw e refl

-- a byte with something else after it, or that is no blank itself, stays
pub next_trimmed : (xs : List ℕ) (i x : ℕ) (before now whole : List ℕ) → x ≡ get_or xs i x → i < length xs → are_blanks (drop i xs) ≡ false → before ++ trimmed (drop i xs) ≡ whole → now ≡ before ++ x ∷ [] → now ++ trimmed (drop (i + 1) xs) ≡ whole
next_trimmed xs i x before now whole e h some was new =
    let split = drop_here xs i x e h in
    let here : trimmed (x ∷ drop (i + 1) xs) ≡ x ∷ trimmed (drop (i + 1) xs) = rw (rw split at some) refl in
    let at_here = rw (split, here) at was in
    rw (new, append_assoc before) at_here
