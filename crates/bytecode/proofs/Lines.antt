-- One line more of a listing.
use Rattle.std.proofs.Common.{◌≡◌, ℕ, zero, suc, ◌+◌, ◌-◌, ◌<◌, ◌≤◌, ◌^◌, List, [], ◌∷◌, ◌++◌, map, length, take, drop, get_or, refl, sym, ap, append_assoc, add-one, drop-cons, ◌∙◌, arith}
use Rattle.std.specs.Prelude.{decimal, codes, slice_get, option_map}
use Rattle.std.proofs.lemmas.List.{get_or_default}
use Rattle.std.proofs.lemmas.Option.{slice_get-map, slice_get_read, slice_get_past}
use Rattle.bytecode.specs.Code.{Code, FunctionCode, Instr}
use Rattle.bytecode.specs.Valid.{end_before}
use Rattle.bytecode.specs.Listing.{lines_from, instr_text, name_text, functions_text}

drop_here : {X : Type 0} (xs : List X) (i : ℕ) (x : X) → x ≡ get_or xs i x → i < length xs → drop i xs ≡ x ∷ drop (i + 1) xs
drop_here xs i x e h = rw (add-one, drop-cons xs i x) (ap (λ y. y ∷ drop (suc i) xs) (sym e))

-- one more instruction's line
pub next_line : {X : Type 0} (v : X → Instr) (fs : List FunctionCode) (xs : List X) (i p : ℕ) (d : X) (x : Instr) (before number a b c now whole : List ℕ) → i < length xs → before ++ lines_from fs p (map v (drop i xs)) ≡ whole → number ≡ decimal p → a ≡ before ++ number → b ≡ a ++ 32 ∷ [] → x ≡ v (get_or xs i d) → c ≡ b ++ instr_text fs x → now ≡ c ++ 10 ∷ [] → now ++ lines_from fs (p + 1) (map v (drop (i + 1) xs)) ≡ whole
next_line v fs xs i p d x before number a b c now whole h was ep ea eb ex ec en =
    let split = drop_here xs i (get_or xs i d) (get_or_default xs i d (get_or xs i d) h) h in
    let at_here = rw split at was in
    rw (en, ec, ex, eb, ea, ep, add-one) (simp append_assoc (simp append_assoc at at_here))

-- a function's name
pub name_there : {X : Type 0} (v : X → FunctionCode) (fs : List X) (f : ℕ) (x : X) → f < length fs → x ≡ get_or fs f x → name_text (slice_get (map v fs) f) ≡ (v x).name
name_there v fs f x lt e = ap name_text (slice_get-map v fs f ∙ ap (option_map v) (slice_get_read fs (length fs) f x refl lt e))

pub name_not : {X : Type 0} (v : X → FunctionCode) (fs : List X) (f : ℕ) → length fs ≤ f → name_text (slice_get (map v fs) f) ≡ []
name_not v fs f le = ap name_text (slice_get-map v fs f ∙ ap (option_map v) (slice_get_past fs f le))

take_within : {X : Type 0} (n : ℕ) (xs : List X) → length (take n xs) ≤ n
take_within zero xs = omega arith
take_within (suc n) [] = omega arith
take_within (suc n) (x ∷ xs) = let h = take_within n xs in omega (arith, h)

-- the lines of a function end below 2 ^ 64
pub lines_fit : {X : Type 0} (xs lines : List X) (first end : ℕ) → first < 2 ^ 32 → end < 2 ^ 64 → lines ≡ take (end - first) (drop first xs) → first + length lines < 2 ^ 64
lines_fit xs lines first end a b e = let h = take_within (end - first) (drop first xs) in let k : length lines ≡ length (take (end - first) (drop first xs)) = ap length e in omega (arith, a, b, h, k)

take_map : {X Y : Type 0} (v : X → Y) (n : ℕ) (xs : List X) → map v (take n xs) ≡ take n (map v xs)
take_map v zero xs = refl
take_map v (suc n) [] = refl
take_map v (suc n) (x ∷ xs) = ap (λ r. v x ∷ r) (take_map v n xs)

drop_map : {X Y : Type 0} (v : X → Y) (n : ℕ) (xs : List X) → map v (drop n xs) ≡ drop n (map v xs)
drop_map v zero xs = refl
drop_map v (suc n) [] = refl
drop_map v (suc n) (x ∷ xs) = drop_map v n xs

pub cut_map : {X Y : Type 0} (v : X → Y) (n m : ℕ) (xs : List X) → map v (take n (drop m xs)) ≡ take n (drop m (map v xs))
cut_map v n m xs = take_map v n (drop m xs) ∙ ap (take n) (drop_map v m xs)

shape : (a n b d l r : List ℕ) → a ++ n ++ b ++ d ++ 10 ∷ l ++ r ≡ (a ++ n ++ b ++ d ++ 10 ∷ l) ++ r
shape a n b d l r = refl

five : (z a n b d x : List ℕ) → z ++ a ++ n ++ b ++ d ++ x ≡ z ++ (a ++ n ++ b ++ d ++ x)
five z a n b d x = simp append_assoc

-- one more function's text
pub next_function : {X : Type 0} (v : X → FunctionCode) (code : Code) (xs : List X) (i end : ℕ) (x : X) (before now whole : List ℕ) → x ≡ get_or xs i x → i < length xs → end ≡ end_before code (map v (drop (i + 1) xs)) → before ++ functions_text code (map v (drop i xs)) ≡ whole → now ≡ before ++ codes "function " ++ (v x).name ++ codes " registers " ++ decimal (v x).registers ++ 10 ∷ lines_from code.functions (v x).first (take (end - (v x).first) (drop (v x).first code.instructions)) → now ++ functions_text code (map v (drop (i + 1) xs)) ≡ whole
next_function v code xs i end x before now whole e h at was en =
    let split = drop_here xs i x e h in
    let at_here = rw split at was in
    rw (en, at, five) (append_assoc before _ _ ∙ ap (λ y. before ++ y) (sym (shape (codes "function ") (v x).name (codes " registers ") (decimal (v x).registers) (lines_from code.functions (v x).first (take (end_before code (map v (drop (i + 1) xs)) - (v x).first) (drop (v x).first code.instructions))) (functions_text code (map v (drop (i + 1) xs))))) ∙ at_here)

pub end_next : {X : Type 0} (v : X → FunctionCode) (code : Code) (xs : List X) (i : ℕ) (y : X) → i < length xs → y ≡ get_or xs i y → (v y).first ≡ end_before code (map v (drop i xs))
end_next v code xs i y lt e = ap (λ l. end_before code (map v l)) (sym (drop_here xs i y e lt))

pub end_last : {X : Type 0} (v : X → FunctionCode) (code : Code) (xs : List X) (i : ℕ) → length xs ≤ i → length code.instructions ≡ end_before code (map v (drop i xs))
end_last v code [] zero h = refl
end_last v code [] (suc i) h = refl
end_last v code (x ∷ xs) zero h = absurd (omega (arith, h))
end_last v code (x ∷ xs) (suc i) h = end_last v code xs i (omega (arith, h))
