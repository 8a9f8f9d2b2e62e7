-- Lists that are the same so far, and texts by their lines.
use Rattle.std.proofs.Common.{◌≡◌, ◌≢◌, ◌⊎◌, inl, inr, ◌∙◌, ◌<◌, ◌≤◌, ◌+◌, ℕ, zero, suc, List, [], ◌∷◌, Bor, Some, None, length, map, take, get_or, slice_get, refl, sym, ap, subst, arith}
use Rattle.std.specs.List.{join_with_byte}
use Rattle.std.specs.Prelude.{min}
use Rattle.std.proofs.lemmas.Bool.{cases_lt}
use Rattle.std.proofs.lemmas.List.{length-map, get_or-map, take_more_same}
use Rattle.std.proofs.lemmas.List.Splits.{join_with_byte-slice_split}
use Rattle.differences.specs.Texts.{DifferFirstAt, text_lines}

-- texts with the same lines are the same
pub same_lines_same_text : (due found : List ℕ) → text_lines found ≡ text_lines due → found ≡ due
same_lines_same_text due found same = sym (join_with_byte-slice_split 10 found) ∙ ap (join_with_byte 10) same ∙ join_with_byte-slice_split 10 due

abbrev pub seen : List (Bor (List ℕ)) → List (List ℕ)
seen lines = map (λ l. l.now) lines

-- one more line is the same
pub one_more_same : (due found : List (Bor (List ℕ))) (at : ℕ) (d : Bor (List ℕ)) → at < length due → at < length found → take at (seen due) ≡ take at (seen found) → (get_or due at d).now ≡ (get_or found at d).now → take (at + 1) (seen due) ≡ take (at + 1) (seen found)
one_more_same due found at d few less same e =
    let m : length (seen due) ≡ length due = length-map due (λ l. l.now) in
    let n : length (seen found) ≡ length found = length-map found (λ l. l.now) in
    take_more_same (seen due) (seen found) at d.now (omega (arith, few, m)) (omega (arith, less, n)) same
    (get_or-map (λ l. l.now) due at d d.now few ∙ e ∙ sym (get_or-map (λ l. l.now) found at d d.now less))

get_within : (xs : List (List ℕ)) (at : ℕ) (e : List ℕ) → at < length xs → slice_get xs at ≡ Some (get_or xs at e)
get_within [] at e few = absurd (omega (arith, few))
get_within (x ∷ xs) zero e few = refl
get_within (x ∷ xs) (suc at) e few = get_within xs at e (omega (arith, few))

get_beyond : (xs : List (List ℕ)) (at : ℕ) → length xs ≤ at → slice_get xs at ≡ None
get_beyond [] at all = refl
get_beyond (x ∷ xs) zero all = absurd (omega (arith, all))
get_beyond (x ∷ xs) (suc at) all = get_beyond xs at (omega (arith, all))

somes_apart : (x y : List ℕ) → x ≢ y → Some x ≢ Some y
somes_apart x y other e = let same : x ≡ y = cc in other same

some_is_not_none : (x : List ℕ) → Some x ≢ None
some_is_not_none x e = cc

-- lines that are not the same
pub lines_differ : (due found : List (Bor (List ℕ))) (at : ℕ) (d : Bor (List ℕ)) → at < length due → at < length found → take at (seen due) ≡ take at (seen found) → (get_or due at d).now ≢ (get_or found at d).now → DifferFirstAt (seen due) (seen found) at
lines_differ due found at d few less same other =
    let m : length (seen due) ≡ length due = length-map due (λ l. l.now) in
    let n : length (seen found) ≡ length found = length-map found (λ l. l.now) in
    let mine = get_within (seen due) at d.now (omega (arith, few, m)) ∙ ap Some (get_or-map (λ l. l.now) due at d d.now few) in
    let theirs = get_within (seen found) at d.now (omega (arith, less, n)) ∙ ap Some (get_or-map (λ l. l.now) found at d d.now less) in
    record { same = same; differs = λ e. somes_apart (get_or due at d).now (get_or found at d).now other (sym mine ∙ e ∙ theirs) }

-- one of them ends first
pub due_ends : (due found : List (Bor (List ℕ))) → length due < length found → take (length due) (seen due) ≡ take (length due) (seen found) → DifferFirstAt (seen due) (seen found) (length due)
due_ends due found less same =
    let m : length (seen due) ≡ length due = length-map due (λ l. l.now) in
    let n : length (seen found) ≡ length found = length-map found (λ l. l.now) in
    let mine = get_beyond (seen due) (length due) (omega (arith, m)) in
    let theirs = get_within (seen found) (length due) [] (omega (arith, less, n)) in
    record { same = same; differs = λ e. some_is_not_none (get_or (seen found) (length due) []) (sym theirs ∙ sym e ∙ mine) }

pub found_ends : (due found : List (Bor (List ℕ))) → length found < length due → take (length found) (seen due) ≡ take (length found) (seen found) → DifferFirstAt (seen due) (seen found) (length found)
found_ends due found less same =
    let m : length (seen due) ≡ length due = length-map due (λ l. l.now) in
    let n : length (seen found) ≡ length found = length-map found (λ l. l.now) in
    let mine = get_within (seen due) (length found) [] (omega (arith, less, m)) in
    let theirs = get_beyond (seen found) (length found) (omega (arith, n)) in
    record { same = same; differs = λ e. some_is_not_none (get_or (seen due) (length found) []) (sym mine ∙ e ∙ theirs) }

by_length : (due found : List (Bor (List ℕ))) (count : ℕ) → length due ≢ length found → count ≡ min (length due) (length found) → take count (seen due) ≡ take count (seen found) → (length due < length found) ⊎ (length found ≤ length due) → DifferFirstAt (seen due) (seen found) count
by_length due found count other is same (inl less) =
    let e : length due ≡ count = grind (arith, is, less) in
    subst (DifferFirstAt (seen due) (seen found)) e (due_ends due found less (subst (λ n. take n (seen due) ≡ take n (seen found)) (sym e) same))
by_length due found count other is same (inr le) =
    let less : length found < length due = grind (arith, le, other) in
    let e : length found ≡ count = grind (arith, is, le) in
    subst (DifferFirstAt (seen due) (seen found)) e (found_ends due found less (subst (λ n. take n (seen due) ≡ take n (seen found)) (sym e) same))

-- the shorter one ends first
pub ends_first : (due found : List (Bor (List ℕ))) (count : ℕ) → length due ≢ length found → count ≡ min (length due) (length found) → take count (seen due) ≡ take count (seen found) → DifferFirstAt (seen due) (seen found) count
ends_first due found count other is same = by_length due found count other is same (cases_lt (length due) (length found))
