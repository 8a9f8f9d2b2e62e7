-- Rows that are written for lines are rows that ask for these.
use Rattle.std.proofs.Common.{◌≡◌, ℕ, zero, suc, ◌-◌, ◌<◌, ◌≤◌, Bool, true, false, ◌==◌, if◌then◌else◌, List, [], ◌∷◌, ◌++◌, length, take, get_or, map, refl, sym, ap, ap₂, subst, inr, ◌∙◌, arith, append-nil, append_assoc, ne_eqb, lit<, lit≤}
use Rattle.std.specs.Prelude.{codes, decimal, flat_map, slice_index}
use Rattle.std.specs.List.{All, AllByRecursion, slice_split}
use Rattle.std.specs.Str.Lines.{lines, lines_of_parts, strip_carriage_return}
use Rattle.std.specs.Str.Parse.{AllDigits}
use Rattle.std.proofs.lemmas.Fmt.{decimal_is_IsNumeral}
use Rattle.std.proofs.lemmas.List.Splits.{slice_split_at}
use Rattle.std.proofs.lemmas.Str.Parse.{digit_from_value}
use Rattle.replay.specs.declared.line.Line.{Line}
use Rattle.replay.specs.Schedules.{AreRows, Asks, letter}
use Rattle.replay.specs.inner.Written.{row_of, line_text, IsInBounds}

-- no control character
abbrev IsPlain : ℕ → Type 0
IsPlain b = 32 ≤ b

joined : {X : Type 0} (P : X → Type 0) (xs ys : List X) → AllByRecursion P xs → AllByRecursion P ys → AllByRecursion P (xs ++ ys)
joined P [] ys all more = more
joined P (x ∷ xs) ys all more = (all.0, joined P xs ys all.1 more)

digits_plain : (ds : List ℕ) → AllDigits 10 ds → AllByRecursion IsPlain ds
digits_plain [] all = tt
digits_plain (c ∷ cs) all = let r = digit_from_value c all.0 in (omega (arith, r.0), digits_plain cs all.1)

letter_plain : (m : Bool) → AllByRecursion IsPlain (letter m)
letter_plain true = (lit≤ tt, tt)
letter_plain false = tt

row_plain : (line : Line) → IsInBounds line → AllByRecursion IsPlain (row_of line)
row_plain line fits =
    let thread = decimal_is_IsNumeral line.thread (omega (arith, fits.0)) in
    let count = decimal_is_IsNumeral line.count (omega (arith, fits.1)) in
    let space : AllByRecursion IsPlain (codes " ") = (lit≤ tt, tt) in
    joined IsPlain (decimal line.thread) (codes " " ++ (letter line.accesses ++ decimal line.count)) (digits_plain (decimal line.thread) thread.0.1) (joined IsPlain (codes " ") (letter line.accesses ++ decimal line.count) space (joined IsPlain (letter line.accesses) (decimal line.count) (letter_plain line.accesses) (digits_plain (decimal line.count) count.0.1)))

plain_at : (xs : List ℕ) → AllByRecursion IsPlain xs → (k d : ℕ) → k < length xs → 32 ≤ get_or xs k d
plain_at [] all k d h = absurd (omega (arith, h))
plain_at (x ∷ xs) all zero d h = all.0
plain_at (x ∷ xs) all (suc k) d h = plain_at xs all.1 k d (omega (arith, h))

no_newline : (xs : List ℕ) → AllByRecursion IsPlain xs → All (λ b. (b == 10) ≡ false) xs
no_newline xs all = λ k d h. let p = plain_at xs all k d h in ne_eqb (get_or xs k d) 10 (λ e. omega (arith, e, p))

no_return : (xs : List ℕ) → AllByRecursion IsPlain xs → strip_carriage_return xs ≡ xs
no_return [] all = refl
no_return (x ∷ xs) all =
    let p = plain_at (x ∷ xs) all (length (x ∷ xs) - 1) 0 (omega arith) in
    ap (λ b. if b then take (length (x ∷ xs) - 1) (x ∷ xs) else x ∷ xs) (ne_eqb (slice_index (x ∷ xs) (length (x ∷ xs) - 1)) 13 (λ e. omega (arith, e, p)))

row_asks : (line : Line) → IsInBounds line → Asks (row_of line) line
row_asks line fits =
    let thread = decimal_is_IsNumeral line.thread (omega (arith, fits.0)) in
    let count = decimal_is_IsNumeral line.count (omega (arith, fits.1)) in
    record {
      before = [];
      thread = decimal line.thread;
      between = codes " ";
      count = decimal line.count;
      after = [];
      row_is = ap (λ (z : List ℕ). decimal line.thread ++ (codes " " ++ (letter line.accesses ++ z))) (sym (append-nil (decimal line.count)));
      spaces = (tt, (refl, tt), tt);
      apart = lit< tt;
      thread_is = (thread.0, thread.1, fits.0);
      count_is = (count.0, count.1, fits.1);
    }

split_text : (ls : List Line) → AllByRecursion IsInBounds ls → slice_split (λ b. b == 10) (flat_map line_text ls) ≡ map row_of ls ++ [] ∷ []
split_text [] fits = refl
split_text (l ∷ ls) fits =
    let rest = flat_map line_text ls in
    ap (slice_split (λ b. b == 10)) (append_assoc (row_of l) (codes "\n") rest) ∙ slice_split_at (λ b. b == 10) (row_of l) 10 rest (no_newline (row_of l) (row_plain l fits.0)) refl ∙ ap (λ (parts : List (List ℕ)). row_of l ∷ parts) (split_text ls fits.1)

parts_are : (ls : List Line) → AllByRecursion IsInBounds ls → lines_of_parts (map row_of ls ++ [] ∷ []) ≡ map row_of ls
parts_are [] fits = refl
parts_are (l ∷ []) fits = ap (λ (row : List ℕ). row ∷ []) (no_return (row_of l) (row_plain l fits.0))
parts_are (l ∷ m ∷ ls) fits =
    ap₂ (λ (row : List ℕ) (rows : List (List ℕ)). row ∷ rows) (no_return (row_of l) (row_plain l fits.0)) (parts_are (m ∷ ls) fits.1)

rows_ask : (ls : List Line) → AllByRecursion IsInBounds ls → AreRows (map row_of ls) ls
rows_ask [] fits = refl
rows_ask (l ∷ ls) fits = inr (l, ls, refl, row_asks l fits.0, rows_ask ls fits.1)

-- what is written for lines reads as these
pub written : (ls : List Line) (text : List ℕ) → text ≡ flat_map line_text ls → AllByRecursion IsInBounds ls → AreRows (lines text) ls
written ls text is fits =
    subst (λ (rows : List (List ℕ)). AreRows rows ls) (sym (ap lines is ∙ ap lines_of_parts (split_text ls fits) ∙ parts_are ls fits)) (rows_ask ls fits)
