-- Where a row is cut, and what it asks for by that.
use Rattle.std.proofs.Common.{◌≡◌, ℕ, suc, ◌+◌, ◌<◌, ◌≤◌, Bool, true, false, cond, ◌==◌, if◌then◌else◌, List, [], ◌∷◌, ◌++◌, length, take, drop, refl, sym, ap, ◌∙◌, subst, arith, append-nil, take-append-drop, drop_of_length-le, drop_at, take_at, length-append, eq-eqb, eqb-true, ne_eqb, lt-ltb, ltb-true, true≢false}
use Rattle.std.proofs.lemmas.Bool.Decides.{nat_tests}
use Rattle.std.specs.List.{prefix_len, AllByRecursion}
use Rattle.std.specs.Int.{IsInRange}
use Rattle.std.specs.Str.Parse.{AllDigits, IsNumeral}
use Rattle.std.proofs.lemmas.Str.{digit_value_digit}
use Rattle.std.proofs.lemmas.Str.Parse.{digit_from_value}
use Rattle.replay.specs.declared.line.Line.{Line}
use Rattle.replay.specs.Schedules.{AreSpaces, Asks, IsBad, SpellsNumber, letter}
use Rattle.replay.specs.inner.Rows.{is_space, is_digit, past, digits_of, behind, has_letter, behind_letter, IsCut}

-- ---- a run at the front

run : (p : ℕ → Bool) (xs ys : List ℕ) → AllByRecursion (λ b. p b ≡ true) xs → prefix_len p ys ≡ 0 → prefix_len p (xs ++ ys) ≡ length xs
run p [] ys all stop = stop
run p (x ∷ xs) ys all stop =
    let h : prefix_len p (xs ++ ys) ≡ length xs = run p xs ys all.1 stop in
    let c : cond (p x) (1 + prefix_len p (xs ++ ys)) 0 ≡ 1 + prefix_len p (xs ++ ys) = ap (λ b. cond b (1 + prefix_len p (xs ++ ys)) 0) all.0 in
    c ∙ omega (arith, h)

taken : (p : ℕ → Bool) (xs ys : List ℕ) → AllByRecursion (λ b. p b ≡ true) xs → prefix_len p ys ≡ 0 → take (prefix_len p (xs ++ ys)) (xs ++ ys) ≡ xs
taken p xs ys all stop = take_at xs ys (prefix_len p (xs ++ ys)) (sym (run p xs ys all stop))

dropped : (p : ℕ → Bool) (xs ys : List ℕ) → AllByRecursion (λ b. p b ≡ true) xs → prefix_len p ys ≡ 0 → drop (prefix_len p (xs ++ ys)) (xs ++ ys) ≡ ys
dropped p xs ys all stop = drop_at xs ys (prefix_len p (xs ++ ys)) (sym (run p xs ys all stop))

one_more : (n : ℕ) → suc n ≡ 1 + n
one_more n = omega arith

front_passes : (p : ℕ → Bool) (xs : List ℕ) → AllByRecursion (λ b. p b ≡ true) (take (prefix_len p xs) xs)
front_passes p [] = tt
front_passes p (x ∷ xs) = go (p x) refl (front_passes p xs)
  where
    go : (b : Bool) → p x ≡ b → AllByRecursion (λ y. p y ≡ true) (take (prefix_len p xs) xs) → AllByRecursion (λ y. p y ≡ true) (take (cond b (1 + prefix_len p xs) 0) (x ∷ xs))
    go true e more = subst (λ k. AllByRecursion (λ y. p y ≡ true) (take k (x ∷ xs))) (one_more (prefix_len p xs)) (e, more)
    go false e more = tt

-- ---- spaces and digits

spaces_pass : (xs : List ℕ) → AreSpaces xs → AllByRecursion (λ b. is_space b ≡ true) xs
spaces_pass [] all = tt
spaces_pass (x ∷ xs) all = (eq-eqb x 32 all.0, spaces_pass xs all.1)

are_spaces : (xs : List ℕ) → AllByRecursion (λ b. is_space b ≡ true) xs → AreSpaces xs
are_spaces [] all = tt
are_spaces (x ∷ xs) all = (eqb-true x 32 all.0, are_spaces xs all.1)

in_range : (c : ℕ) → 48 ≤ c → c ≤ 57 → is_digit c ≡ true
in_range c least most = grind (arith, nat_tests)

range_of : (c : ℕ) → is_digit c ≡ true → IsInRange 48 57 c
range_of c e = grind (arith, nat_tests)

digits_pass : (xs : List ℕ) → AllDigits 10 xs → AllByRecursion (λ b. is_digit b ≡ true) xs
digits_pass [] all = tt
digits_pass (x ∷ xs) all = let r = digit_from_value x all.0 in (in_range x r.0 r.1, digits_pass xs all.1)

pub are_digits : (xs : List ℕ) → AllByRecursion (λ b. is_digit b ≡ true) xs → AllDigits 10 xs
are_digits [] all = tt
are_digits (x ∷ xs) all =
    let r = range_of x all.0 in
    let v = digit_value_digit x r in
    (omega (arith, v, r.0, r.1), are_digits xs all.1)

pub digits_are : (xs : List ℕ) → AllDigits 10 (digits_of xs)
digits_are xs = are_digits (digits_of xs) (front_passes is_digit xs)

no_space : (digits rest : List ℕ) → IsNumeral 10 digits → prefix_len is_space (digits ++ rest) ≡ 0
no_space [] rest is = absurd (omega (arith, is.0))
no_space (c ∷ cs) rest is =
    let r = digit_from_value c is.1.0 in
    ap (λ b. cond b (1 + prefix_len is_space (cs ++ rest)) 0) (ne_eqb c 32 (λ e. omega (arith, e, r.0)))

no_digit : (spaces rest : List ℕ) → AreSpaces spaces → 0 < length spaces → prefix_len is_digit (spaces ++ rest) ≡ 0
no_digit [] rest all some = absurd (omega (arith, some))
no_digit (c ∷ cs) rest all some = ap (λ b. cond (is_digit b) (1 + prefix_len is_digit (cs ++ rest)) 0) all.0

none_after : (spaces : List ℕ) → AreSpaces spaces → prefix_len is_digit spaces ≡ 0
none_after [] all = refl
none_after (c ∷ cs) all = ap (λ b. cond (is_digit b) (1 + prefix_len is_digit cs) 0) all.0

letter_no_space : (m : Bool) (digits rest : List ℕ) → IsNumeral 10 digits → prefix_len is_space (letter m ++ (digits ++ rest)) ≡ 0
letter_no_space true digits rest is = refl
letter_no_space false digits rest is = no_space digits rest is

letter_is : (m : Bool) (digits rest : List ℕ) → IsNumeral 10 digits → has_letter (letter m ++ (digits ++ rest)) ≡ m
letter_is true digits rest is = refl
letter_is false [] rest is = absurd (omega (arith, is.0))
letter_is false (c ∷ cs) rest is = let r = digit_from_value c is.1.0 in ne_eqb c 97 (λ e. omega (arith, e, r.1))

behind_letter_is : (m : Bool) (digits rest : List ℕ) → IsNumeral 10 digits → behind_letter (letter m ++ (digits ++ rest)) ≡ digits ++ rest
behind_letter_is true digits rest is = refl
behind_letter_is false digits rest is = ap (λ b. if b then drop 1 (digits ++ rest) else digits ++ rest) (letter_is false digits rest is)

letter_and_rest : (row : List ℕ) → row ≡ letter (has_letter row) ++ behind_letter row
letter_and_rest [] = refl
letter_and_rest (b ∷ row) = go (b == 97) refl
  where
    go : (m : Bool) → (b == 97) ≡ m → b ∷ row ≡ letter m ++ (if m then row else b ∷ row)
    go true e = ap (λ c. c ∷ row) (eqb-true b 97 e)
    go false e = refl

-- ---- rows of spaces

pub none_left : (row : List ℕ) → AreSpaces row → past row ≡ []
none_left row all =
    let n : prefix_len is_space row ≡ length row = ap (prefix_len is_space) (sym (append-nil row)) ∙ run is_space row [] (spaces_pass row all) refl in
    drop_of_length-le row (omega (arith, n))

pub all_past : (row : List ℕ) → past row ≡ [] → AreSpaces row
all_past row none =
    let whole : row ≡ take (prefix_len is_space row) row = sym (take-append-drop (prefix_len is_space row) row) ∙ ap (λ z. take (prefix_len is_space row) row ++ z) none ∙ append-nil (take (prefix_len is_space row) row) in
    subst AreSpaces (sym whole) (are_spaces (take (prefix_len is_space row) row) (front_passes is_space row))

-- ---- what a row asks for is where it is cut

pub record Found (row thread : List ℕ) (apart : Bool) (count over : List ℕ) (line : Line) (a : Asks row line) : Type 0 where
  pub some : 0 < length (past row)
  pub thread_is : thread ≡ a.thread
  pub apart_is : apart ≡ true
  pub count_is : count ≡ a.count
  pub over_is : over ≡ []

pub found : (row thread : List ℕ) (apart accesses : Bool) (count over : List ℕ) → IsCut row thread apart accesses count over → (line : Line) (a : Asks row line) → Found row thread apart count over line a
found row thread apart accesses count over cut line a =
    let tail : List ℕ = letter line.accesses ++ (a.count ++ a.after) in
    let r0 : past row ≡ a.thread ++ (a.between ++ tail) = ap past a.row_is ∙ dropped is_space a.before (a.thread ++ (a.between ++ tail)) (spaces_pass a.before a.spaces.0) (no_space a.thread (a.between ++ tail) a.thread_is.0) in
    let th : digits_of (past row) ≡ a.thread = ap digits_of r0 ∙ taken is_digit a.thread (a.between ++ tail) (digits_pass a.thread a.thread_is.0.1) (no_digit a.between tail a.spaces.1 a.apart) in
    let r1 : behind (past row) ≡ a.between ++ tail = ap behind r0 ∙ dropped is_digit a.thread (a.between ++ tail) (digits_pass a.thread a.thread_is.0.1) (no_digit a.between tail a.spaces.1 a.apart) in
    let r2 : past (behind (past row)) ≡ tail = ap past r1 ∙ dropped is_space a.between tail (spaces_pass a.between a.spaces.1) (letter_no_space line.accesses a.count a.after a.count_is.0) in
    let r3 : behind_letter (past (behind (past row))) ≡ a.count ++ a.after = ap behind_letter r2 ∙ behind_letter_is line.accesses a.count a.after a.count_is.0 in
    let ct : digits_of (behind_letter (past (behind (past row)))) ≡ a.count = ap digits_of r3 ∙ taken is_digit a.count a.after (digits_pass a.count a.count_is.0.1) (none_after a.after a.spaces.2) in
    let r4 : behind (behind_letter (past (behind (past row)))) ≡ a.after = ap behind r3 ∙ dropped is_digit a.count a.after (digits_pass a.count a.count_is.0.1) (none_after a.after a.spaces.2) in
    let l0 : length (past row) ≡ length a.thread + length (a.between ++ tail) = ap (λ z. length z) r0 ∙ length-append a.thread (a.between ++ tail) in
    let l1 : length (behind (past row)) ≡ length a.between + length tail = ap (λ z. length z) r1 ∙ length-append a.between tail in
    let l2 : length (past (behind (past row))) ≡ length tail = ap (λ z. length z) r2 in
    let most = a.thread_is.0.0 in
    let apart_some = a.apart in
    record {
      some = omega (arith, l0, most);
      thread_is = cut.thread_is ∙ th;
      apart_is = cut.apart_is ∙ lt-ltb (length (past (behind (past row)))) (length (behind (past row))) (omega (arith, l1, l2, apart_some));
      count_is = cut.count_is ∙ ct;
      over_is = cut.over_is ∙ ap past r4 ∙ none_left a.after a.spaces.2;
    }

pub asks : (row thread : List ℕ) (apart accesses : Bool) (count over : List ℕ) → IsCut row thread apart accesses count over → apart ≡ true → over ≡ [] → (t n : ℕ) → SpellsNumber thread t → SpellsNumber count n → Asks row (record { thread = t; count = n; accesses = accesses })
asks row thread apart accesses count over cut spaced none t n is_t is_n =
    let r1 : List ℕ = behind (past row) in
    let r2 : List ℕ = past r1 in
    let r3 : List ℕ = behind_letter r2 in
    let r4 : List ℕ = behind r3 in
    let between : List ℕ = take (prefix_len is_space r1) r1 in
    let e0 : row ≡ take (prefix_len is_space row) row ++ past row = sym (take-append-drop (prefix_len is_space row) row) in
    let e1 : past row ≡ thread ++ r1 = sym (take-append-drop (prefix_len is_digit (past row)) (past row)) ∙ ap (λ z. z ++ r1) (sym cut.thread_is) in
    let e2 : r1 ≡ between ++ r2 = sym (take-append-drop (prefix_len is_space r1) r1) in
    let e3 : r2 ≡ letter accesses ++ r3 = letter_and_rest r2 ∙ ap (λ m. letter m ++ r3) (sym cut.accesses_is) in
    let e4 : r3 ≡ count ++ r4 = sym (take-append-drop (prefix_len is_digit r3) r3) ∙ ap (λ z. z ++ r4) (sym cut.count_is) in
    let lens : length r1 ≡ length between + length r2 = ap (λ z. length z) e2 ∙ length-append between r2 in
    let less : length r2 < length r1 = ltb-true (length r2) (length r1) (sym cut.apart_is ∙ spaced) in
    record {
      before = take (prefix_len is_space row) row;
      thread = thread;
      between = between;
      count = count;
      after = r4;
      row_is = e0 ∙ ap (λ z. take (prefix_len is_space row) row ++ z) (e1 ∙ ap (λ z. thread ++ z) (e2 ∙ ap (λ z. between ++ z) (e3 ∙ ap (λ z. letter accesses ++ z) e4)));
      spaces = (are_spaces (take (prefix_len is_space row) row) (front_passes is_space row), are_spaces between (front_passes is_space r1), all_past r4 (sym cut.over_is ∙ none));
      apart = omega (arith, lens, less);
      thread_is = is_t;
      count_is = is_n;
    }

pub bad : (row thread : List ℕ) (apart accesses : Bool) (count over : List ℕ) → IsCut row thread apart accesses count over → 0 < length (past row) → ((line : Line) (a : Asks row line) → Found row thread apart count over line a → ⊥) → IsBad row
bad row thread apart accesses count over cut some never = (
  (λ spaces. let none : length (past row) ≡ 0 = ap (λ z. length z) (none_left row spaces) in absurd (omega (arith, none, some))),
  λ line a. never line a (found row thread apart accesses count over cut line a),
)

pub some_left : (xs : List ℕ) → (length xs == 0) ≡ false → 0 < length xs
some_left [] e = absurd (true≢false e)
some_left (x ∷ xs) e = omega arith
