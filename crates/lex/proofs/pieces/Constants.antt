-- The constant at the front.
use Rattle.std.proofs.Common.{◌≡◌, ℕ, zero, suc, ◌+◌, ◌-◌, ◌*◌, ◌<◌, ◌≤◌, ◌⊎◌, inl, inr, Bool, true, false, ◌&&◌, ◌||◌, ◌==◌, if◌then◌else◌, List, [], ◌∷◌, ◌++◌, length, take, drop, slice_index, refl, sym, ap, ◌∙◌, arith, subst, length-append, append_assoc, length-drop, eqb-true}
use Rattle.std.specs.List.{prefix_len}
use Rattle.std.specs.Char.{digit_value}
use Rattle.std.proofs.lemmas.Bool.Decides.{nat_tests}
use Rattle.std.proofs.lemmas.List.{length-take-le, take-append-drop, take_at, drop_at, drop-take, drop-drop, get_or_past}
use Rattle.std.proofs.Math.Seq.{take-add}
use Rattle.std.proofs.Math.Nat.{mul-le-mul_left}
use Rattle.std.proofs.lemmas.Bool.{cases_lt, and_parts}
use Rattle.std.proofs.lemmas.List.Sums.{prefix_len-le-length, prefix_len_passes}
use Rattle.lex.specs.declared.constant.Base.{Base}
use Rattle.lex.specs.declared.constant.Base.TheVariants.{Decimal, Octal, Hexadecimal}
use Rattle.lex.specs.Bytes.{is_digit, is_octal, is_hexadecimal, Only}
use Rattle.lex.specs.Pieces.{is_digit_of, radix, value_from, IsInBase, IsSuffix, Constant, Shape, Longest}
use Rattle.lex.specs.Pieces as s
use Rattle.lex.specs.declared.constant.Suffix.{Suffix}
use Rattle.lex.specs.declared.constant.Suffix.TheVariants as kind
use Rattle.lex.specs.inner.Constants.{base_at, before_len, is_unsigned_suffix, is_long_long_suffix, suffix_at, suffix_size, suffix_len, digits_len, constant_len}
use Rattle.lex.proofs.pieces.Runs.{only_run, only_most, front_byte, rest_byte}
use Rattle.lex.proofs.pieces.Shapes.{run_some}
use Rattle.lex.proofs.pieces.Classes.{digit_class, constant_only, front_class}

pub grows : (r n : ℕ) (ds : List ℕ) → 1 ≤ r → n ≤ value_from r n ds
grows r n [] le = omega arith
grows r n (d ∷ ds) le =
    let h = grows r (n * r + digit_value d) ds le in
    let m : n * 1 ≤ n * r = mul-le-mul_left n le in
    omega arith

-- ---- a run of digits with a suffix

clash : (b : Bool) → b ≡ true → b ≡ false → ⊥
clash b t f = cc

run_end : (p : ℕ → Bool) (text ds sf after : List ℕ) (c : ℕ) → p c ≡ false → slice_index (sf ++ after) 0 ≡ c → suffix_len (sf ++ after) ≡ length sf → text ≡ ds ++ (sf ++ after) → length ds ≤ prefix_len p text → length ds + length sf ≤ prefix_len p text + suffix_len (drop (prefix_len p text) text)
run_end p text ds sf after c stops first ends e le =
    let behind : drop (length ds) text ≡ sf ++ after = ap (drop (length ds)) e ∙ drop_at ds (sf ++ after) (length ds) refl in
    let zero_more : length ds + 0 ≡ length ds = omega arith in
    let byte : slice_index text (length ds) ≡ c = ap (slice_index text) (sym zero_more) ∙ sym (rest_byte text (length ds) 0) ∙ ap (λ (z : List ℕ). slice_index z 0) behind ∙ first in
    elim (cases_lt (length ds) (prefix_len p text)) [
      | inl lt ↦ absurd (clash (p (slice_index text (length ds))) (prefix_len_passes p text (length ds) 0 lt) (ap p byte ∙ stops))
      | inr ge ↦
          let same : prefix_len p text ≡ length ds = omega arith in
          let all : suffix_len (drop (prefix_len p text) text) ≡ length sf = ap (λ (k : ℕ). suffix_len (drop k text)) same ∙ ap suffix_len behind ∙ ends in
          omega arith
    ]

-- no suffix begins with a digit
pub record StopsAtSuffixes (p : ℕ → Bool) : Type 0 where
  pub u : p 117 ≡ false
  pub large_u : p 85 ≡ false
  pub l : p 108 ≡ false
  pub large_l : p 76 ≡ false

pub run_longest : (p : ℕ → Bool) (text : List ℕ) (n : ℕ) (ds suffix : List ℕ) → n ≤ length text → take n text ≡ ds ++ suffix → Only p ds → IsSuffix suffix → StopsAtSuffixes p → n ≤ prefix_len p text + suffix_len (drop (prefix_len p text) text)
run_longest p text n ds suffix le e all ended parts =
    let whole : text ≡ ds ++ (suffix ++ drop n text) = sym (take-append-drop n text) ∙ ap (λ (z : List ℕ). z ++ drop n text) e ∙ append_assoc ds suffix (drop n text) in
    let front : take (length ds) text ≡ ds = ap (take (length ds)) whole ∙ take_at ds (suffix ++ drop n text) (length ds) refl in
    let size : length (take n text) ≡ n = length-take-le n text le in
    let sizes : length (take n text) ≡ length (ds ++ suffix) = ap (λ (z : List ℕ). length z) e in
    let sum : length (ds ++ suffix) ≡ length ds + length suffix = length-append ds suffix in
    let most : length ds ≤ prefix_len p text = only_most p text (length ds) (omega arith) (subst (Only p) (sym front) all) in
    go suffix ended whole most size sizes sum
  where
    by : (suffix : List ℕ) (c : ℕ) → p c ≡ false → slice_index (suffix ++ drop n text) 0 ≡ c → suffix_len (suffix ++ drop n text) ≡ length suffix → text ≡ ds ++ (suffix ++ drop n text) → length ds ≤ prefix_len p text → length (take n text) ≡ n → length (take n text) ≡ length (ds ++ suffix) → length (ds ++ suffix) ≡ length ds + length suffix → n ≤ prefix_len p text + suffix_len (drop (prefix_len p text) text)
    by suffix c stops first ends whole most size sizes sum = let h = run_end p text ds suffix (drop n text) c stops first ends whole most in omega arith

    to : (v suffix : List ℕ) (c : ℕ) → suffix ≡ v → p c ≡ false → slice_index (v ++ drop n text) 0 ≡ c → suffix_len (v ++ drop n text) ≡ length v → text ≡ ds ++ (suffix ++ drop n text) → length ds ≤ prefix_len p text → length (take n text) ≡ n → length (take n text) ≡ length (ds ++ suffix) → length (ds ++ suffix) ≡ length ds + length suffix → n ≤ prefix_len p text + suffix_len (drop (prefix_len p text) text)
    to v suffix c e stops first ends whole most size sizes sum =
        by suffix c stops (ap (λ (z : List ℕ). slice_index (z ++ drop n text) 0) e ∙ first) (ap (λ (z : List ℕ). suffix_len (z ++ drop n text)) e ∙ ends ∙ ap (λ (z : List ℕ). length z) (sym e)) whole most size sizes sum

    go : (suffix : List ℕ) → IsSuffix suffix → text ≡ ds ++ (suffix ++ drop n text) → length ds ≤ prefix_len p text → length (take n text) ≡ n → length (take n text) ≡ length (ds ++ suffix) → length (ds ++ suffix) ≡ length ds + length suffix → n ≤ prefix_len p text + suffix_len (drop (prefix_len p text) text)
    go suffix (inl e) whole most size sizes sum = let none : length suffix ≡ 0 = ap (λ (z : List ℕ). length z) e in omega arith
    go suffix (inr (inl e)) whole most size sizes sum = to (117 ∷ []) suffix 117 e parts.u refl refl whole most size sizes sum
    go suffix (inr (inr (inl e))) whole most size sizes sum = to (85 ∷ []) suffix 85 e parts.large_u refl refl whole most size sizes sum
    go suffix (inr (inr (inr (inl e)))) whole most size sizes sum = to (108 ∷ 108 ∷ []) suffix 108 e parts.l refl refl whole most size sizes sum
    go suffix (inr (inr (inr (inr e)))) whole most size sizes sum = to (76 ∷ 76 ∷ []) suffix 76 e parts.large_l refl refl whole most size sizes sum

-- ---- the base

abbrev pub Front : Base → List ℕ → Type 0
Front Decimal rest = slice_index rest 0 ≡ 48 → ⊥
Front Octal rest = (slice_index rest 0 ≡ 48) × (((slice_index rest 1 == 120 || slice_index rest 1 == 88) && is_hexadecimal (slice_index rest 2)) ≡ false)
Front Hexadecimal rest = (slice_index rest 0 ≡ 48) × (((slice_index rest 1 == 120 || slice_index rest 1 == 88) && is_hexadecimal (slice_index rest 2)) ≡ true)

pub front : (rest : List ℕ) → Front (base_at rest) rest
front rest = go (slice_index rest 0 == 48) refl ((slice_index rest 1 == 120 || slice_index rest 1 == 88) && is_hexadecimal (slice_index rest 2)) refl
  where
    go : (a : Bool) → (slice_index rest 0 == 48) ≡ a → (b : Bool) → ((slice_index rest 1 == 120 || slice_index rest 1 == 88) && is_hexadecimal (slice_index rest 2)) ≡ b → Front (if a then (if b then Hexadecimal else Octal) else Decimal) rest
    go true e true f = (eqb-true (slice_index rest 0) 48 e, f)
    go true e false f = (eqb-true (slice_index rest 0) 48 e, f)
    go false e b f = λ h. clash (slice_index rest 0 == 48) (ap (λ (k : ℕ). k == 48) h) e

hexadecimal_some : (b : ℕ) → is_hexadecimal b ≡ true → 0 < b
hexadecimal_some b h = grind (arith, nat_tests)

-- a third byte that is a digit stands in the text
pub third : (rest : List ℕ) → is_hexadecimal (slice_index rest 2) ≡ true → 2 < length rest
third rest h = elim (cases_lt 2 (length rest)) [
  | inl lt ↦ lt
  | inr ge ↦ let past : slice_index rest 2 ≡ 0 = get_or_past rest 2 0 ge in let some = hexadecimal_some (slice_index rest 2) h in absurd (omega arith)
]

x_byte : (b : ℕ) → (b == 120 || b == 88) ≡ true → (b ≡ 120) ⊎ (b ≡ 88)
x_byte b h = go (b == 120) refl h
  where
    go : (t : Bool) → (b == 120) ≡ t → (t || b == 88) ≡ true → (b ≡ 120) ⊎ (b ≡ 88)
    go true e h = inl (eqb-true b 120 e)
    go false e h = inr (eqb-true b 88 h)

-- ---- the constant

take_two : (rest : List ℕ) (a b : ℕ) → 2 ≤ length rest → slice_index rest 0 ≡ a → slice_index rest 1 ≡ b → take 2 rest ≡ a ∷ b ∷ []
take_two [] a b le e f = absurd (omega arith)
take_two (x ∷ []) a b le e f = absurd (omega arith)
take_two (x ∷ y ∷ rest) a b le e f = ap (λ (z : ℕ). z ∷ y ∷ []) e ∙ ap (λ (z : ℕ). a ∷ z ∷ []) f

take_one : (rest : List ℕ) (a : ℕ) → 1 ≤ length rest → slice_index rest 0 ≡ a → take 1 rest ≡ a ∷ []
take_one [] a le e = absurd (omega arith)
take_one (x ∷ rest) a le e = ap (λ (z : ℕ). z ∷ []) e

written : (b : Base) (rest : List ℕ) → Front b rest → 0 < length rest → is_digit (slice_index rest 0) ≡ true → IsInBase b (take (before_len b) rest) (take (prefix_len (is_digit_of b) (drop (before_len b) rest)) (drop (before_len b) rest))
written Decimal rest f lt h =
    let some : 0 < prefix_len is_digit rest = run_some is_digit rest lt h in
    let size : length (take (prefix_len is_digit rest) rest) ≡ prefix_len is_digit rest = length-take-le (prefix_len is_digit rest) rest (prefix_len-le-length is_digit rest) in
    (refl, omega arith, λ e. f (sym (front_byte rest (prefix_len is_digit rest) 0 some) ∙ e))
written Octal rest f lt h = take_one rest 48 (omega arith) f.0
written Hexadecimal rest f lt h =
    let parts = and_parts (slice_index rest 1 == 120 || slice_index rest 1 == 88) (is_hexadecimal (slice_index rest 2)) f.1 in
    let large : 2 < length rest = third rest parts.1 in
    let behind : length (drop 2 rest) ≡ length rest - 2 = length-drop 2 rest in
    let some : 0 < prefix_len is_hexadecimal (drop 2 rest) = run_some is_hexadecimal (drop 2 rest) (omega arith) (ap is_hexadecimal (rest_byte rest 2 0) ∙ parts.1) in
    let size : length (take (prefix_len is_hexadecimal (drop 2 rest)) (drop 2 rest)) ≡ prefix_len is_hexadecimal (drop 2 rest) = length-take-le (prefix_len is_hexadecimal (drop 2 rest)) (drop 2 rest) (prefix_len-le-length is_hexadecimal (drop 2 rest)) in
    let digits : 0 < length (take (prefix_len is_hexadecimal (drop 2 rest)) (drop 2 rest)) = omega arith in
    elim (x_byte (slice_index rest 1) parts.0) [
      | inl x ↦ (inl (take_two rest 48 120 (omega arith) f.0 x), digits)
      | inr x ↦ (inr (take_two rest 48 88 (omega arith) f.0 x), digits)
    ]

suffixed : (after : List ℕ) → IsSuffix (take (suffix_len after) after)
suffixed [] = inl refl
suffixed (b ∷ []) = go (b == 117) refl (b == 85) refl
  where
    go : (x : Bool) → (b == 117) ≡ x → (y : Bool) → (b == 85) ≡ y → IsSuffix (take (suffix_size (if (x || y) then kind.Unsigned else kind.Nothing)) (b ∷ []))
    go true e y f = inr (inl (ap (λ (z : ℕ). z ∷ []) (eqb-true b 117 e)))
    go false e true f = inr (inr (inl (ap (λ (z : ℕ). z ∷ []) (eqb-true b 85 f))))
    go false e false f = inl refl
suffixed (b ∷ c ∷ after) = go (b == 117) refl (b == 85) refl
  where
    two : (k : ℕ) → (b == k && c == k) ≡ true → b ∷ c ∷ [] ≡ k ∷ k ∷ []
    two k h = let parts = and_parts (b == k) (c == k) h in ap (λ (z : ℕ). z ∷ c ∷ []) (eqb-true b k parts.0) ∙ ap (λ (z : ℕ). k ∷ z ∷ []) (eqb-true c k parts.1)

    long : (x : Bool) → (b == 108 && c == 108) ≡ x → (y : Bool) → (b == 76 && c == 76) ≡ y → IsSuffix (take (suffix_size (if (x || y) then kind.LongLong else kind.Nothing)) (b ∷ c ∷ after))
    long true e y f = inr (inr (inr (inl (two 108 e))))
    long false e true f = inr (inr (inr (inr (two 76 f))))
    long false e false f = inl refl

    go : (x : Bool) → (b == 117) ≡ x → (y : Bool) → (b == 85) ≡ y → IsSuffix (take (suffix_size (if (x || y) then kind.Unsigned else if ((b == 108 && c == 108) || (b == 76 && c == 76)) then kind.LongLong else kind.Nothing)) (b ∷ c ∷ after))
    go true e y f = inr (inl (ap (λ (z : ℕ). z ∷ []) (eqb-true b 117 e)))
    go false e true f = inr (inr (inl (ap (λ (z : ℕ). z ∷ []) (eqb-true b 85 f))))
    go false e false f = long (b == 108 && c == 108) refl (b == 76 && c == 76) refl

-- ---- the longest

first_of_digits : (ds suffix : List ℕ) → 0 < length ds → slice_index (ds ++ suffix) 0 ≡ slice_index ds 0
first_of_digits [] suffix lt = absurd (omega arith)
first_of_digits (d ∷ ds) suffix lt = refl

-- what stands behind the first bytes of a front
behind_front : (rest : List ℕ) (n k : ℕ) (z : List ℕ) → k ≤ n → drop k (take n rest) ≡ z → take (n - k) (drop k rest) ≡ z
behind_front rest n k z le e =
    let sum : k + (n - k) ≡ n = omega arith in
    sym (drop-take k (n - k) rest) ∙ ap (λ (m : ℕ). drop k (take m rest)) sum ∙ e

-- a constant at the front is no longer than the run of its base's digits and its suffix
base_longest : (b : Base) (rest : List ℕ) (n : ℕ) → Front b rest → n ≤ length rest → Constant (take n rest) → n ≤ before_len b + prefix_len (is_digit_of b) (drop (before_len b) rest) + suffix_len (drop (before_len b + prefix_len (is_digit_of b) (drop (before_len b) rest)) rest)
base_longest b rest n f le c = go b f c.base c.before c.digits c.suffix c.whole c.written c.all c.ended
  where
    size : length (take n rest) ≡ n
    size = length-take-le n rest le

    byte : (w : List ℕ) (k : ℕ) → take n rest ≡ w → k < length w → slice_index rest k ≡ slice_index w k
    byte w k e lt =
        let whole : length (take n rest) ≡ n = size in
        let same : length (take n rest) ≡ length w = ap (λ (z : List ℕ). length z) e in
        sym (front_byte rest n k (omega arith)) ∙ ap (λ (z : List ℕ). slice_index z k) e

    run : (p : ℕ → Bool) (k : ℕ) (before ds suffix : List ℕ) → take n rest ≡ before ++ (ds ++ suffix) → length before ≡ k → Only p ds → IsSuffix suffix → StopsAtSuffixes p → n ≤ k + prefix_len p (drop k rest) + suffix_len (drop (k + prefix_len p (drop k rest)) rest)
    run p k before ds suffix e l all ended parts =
        let all_of : length (take n rest) ≡ n = size in
        let sizes : length (take n rest) ≡ length (before ++ (ds ++ suffix)) = ap (λ (z : List ℕ). length z) e in
        let sum : length (before ++ (ds ++ suffix)) ≡ length before + length (ds ++ suffix) = length-append before (ds ++ suffix) in
        let le_k : k ≤ n = omega arith in
        let rest_size : length (drop k rest) ≡ length rest - k = length-drop k rest in
        let behind : take (n - k) (drop k rest) ≡ ds ++ suffix = behind_front rest n k (ds ++ suffix) le_k (ap (drop k) e ∙ drop_at before (ds ++ suffix) k l) in
        let h : n - k ≤ prefix_len p (drop k rest) + suffix_len (drop (prefix_len p (drop k rest)) (drop k rest)) = run_longest p (drop k rest) (n - k) ds suffix (omega arith) behind all ended parts in
        let drops : drop (prefix_len p (drop k rest)) (drop k rest) ≡ drop (k + prefix_len p (drop k rest)) rest = drop-drop (prefix_len p (drop k rest)) k rest in
        let g : n - k ≤ prefix_len p (drop k rest) + suffix_len (drop (k + prefix_len p (drop k rest)) rest) = rw drops at h in
        omega arith

    first_ne : (b : ℕ) → is_octal b ≡ true → (b ≡ 120) ⊎ (b ≡ 88) → ⊥
    first_ne b h (inl e) = clash (is_octal b) h (ap is_octal e)
    first_ne b h (inr e) = clash (is_octal b) h (ap is_octal e)

    suffix_ne : (b k : ℕ) → b ≡ k → (k == 120) ≡ false → (k == 88) ≡ false → (b ≡ 120) ⊎ (b ≡ 88) → ⊥
    suffix_ne b k e t u (inl x) = clash (b == 120) (ap (λ (z : ℕ). z == 120) x) (ap (λ (z : ℕ). z == 120) e ∙ t)
    suffix_ne b k e t u (inr x) = clash (b == 88) (ap (λ (z : ℕ). z == 88) x) (ap (λ (z : ℕ). z == 88) e ∙ u)

    digits_first : (before ds suffix : List ℕ) → take n rest ≡ before ++ (ds ++ suffix) → before ≡ [] → 0 < length ds → slice_index rest 0 ≡ slice_index (ds ++ suffix) 0
    digits_first before ds suffix e none lt =
        let whole : take n rest ≡ ds ++ suffix = e ∙ ap (λ (z : List ℕ). z ++ (ds ++ suffix)) none in
        let sum : length (ds ++ suffix) ≡ length ds + length suffix = length-append ds suffix in
        byte (ds ++ suffix) 0 whole (omega arith)

    -- only `0` is an octal constant before an `x`
    only_zero : (ds suffix : List ℕ) → take n rest ≡ 48 ∷ (ds ++ suffix) → Only is_octal ds → IsSuffix suffix → (slice_index rest 1 ≡ 120) ⊎ (slice_index rest 1 ≡ 88) → n ≤ 1
    only_zero (d ∷ ds) suffix e all ended x = absurd (first_ne (slice_index rest 1) (ap is_octal (byte (48 ∷ d ∷ (ds ++ suffix)) 1 e (omega arith)) ∙ all 0 (omega arith)) x)
    only_zero [] suffix e all (inl none) x = let all_of : length (take n rest) ≡ n = size in let sizes : length (take n rest) ≡ 1 = ap (λ (z : List ℕ). length z) e ∙ ap (λ (z : List ℕ). length (48 ∷ z)) none in omega arith
    only_zero [] suffix e all (inr (inl u)) x = absurd (suffix_ne (slice_index rest 1) 117 (byte (48 ∷ 117 ∷ []) 1 (e ∙ ap (λ (z : List ℕ). 48 ∷ z) u) (omega arith)) refl refl x)
    only_zero [] suffix e all (inr (inr (inl u))) x = absurd (suffix_ne (slice_index rest 1) 85 (byte (48 ∷ 85 ∷ []) 1 (e ∙ ap (λ (z : List ℕ). 48 ∷ z) u) (omega arith)) refl refl x)
    only_zero [] suffix e all (inr (inr (inr (inl u)))) x = absurd (suffix_ne (slice_index rest 1) 108 (byte (48 ∷ 108 ∷ 108 ∷ []) 1 (e ∙ ap (λ (z : List ℕ). 48 ∷ z) u) (omega arith)) refl refl x)
    only_zero [] suffix e all (inr (inr (inr (inr u)))) x = absurd (suffix_ne (slice_index rest 1) 76 (byte (48 ∷ 76 ∷ 76 ∷ []) 1 (e ∙ ap (λ (z : List ℕ). 48 ∷ z) u) (omega arith)) refl refl x)

    -- the three first bytes of a hexadecimal constant
    hexed : (x : ℕ) (ds suffix : List ℕ) → take n rest ≡ 48 ∷ x ∷ (ds ++ suffix) → 0 < length ds → Only is_hexadecimal ds → (x == 120 || x == 88) ≡ true → ((slice_index rest 1 == 120 || slice_index rest 1 == 88) && is_hexadecimal (slice_index rest 2)) ≡ true
    hexed x [] suffix e lt all h = absurd (omega arith)
    hexed x (d ∷ ds) suffix e lt all h =
        let one : slice_index rest 1 ≡ x = byte (48 ∷ x ∷ d ∷ (ds ++ suffix)) 1 e (omega arith) in
        let two : slice_index rest 2 ≡ d = byte (48 ∷ x ∷ d ∷ (ds ++ suffix)) 2 e (omega arith) in
        let digit : is_hexadecimal d ≡ true = all 0 (omega arith) in
        ap (λ (k : ℕ). (k == 120 || k == 88) && is_hexadecimal (slice_index rest 2)) one ∙ ap (λ (t : Bool). t && is_hexadecimal (slice_index rest 2)) h ∙ ap is_hexadecimal two ∙ digit

    zero_first : (w : List ℕ) → take n rest ≡ 48 ∷ w → slice_index rest 0 ≡ 48
    zero_first w e = byte (48 ∷ w) 0 e (omega arith)

    hexadecimal_in : (b : Base) → Front b rest → (x : ℕ) (ds suffix : List ℕ) → take n rest ≡ 48 ∷ x ∷ (ds ++ suffix) → 0 < length ds → Only is_hexadecimal ds → IsSuffix suffix → (x == 120 || x == 88) ≡ true → n ≤ before_len b + prefix_len (is_digit_of b) (drop (before_len b) rest) + suffix_len (drop (before_len b + prefix_len (is_digit_of b) (drop (before_len b) rest)) rest)
    hexadecimal_in Decimal f x ds suffix e lt all ended h = absurd (f (zero_first (x ∷ (ds ++ suffix)) e))
    hexadecimal_in Octal f x ds suffix e lt all ended h = absurd (clash ((slice_index rest 1 == 120 || slice_index rest 1 == 88) && is_hexadecimal (slice_index rest 2)) (hexed x ds suffix e lt all h) f.1)
    hexadecimal_in Hexadecimal f x ds suffix e lt all ended h = run is_hexadecimal 2 (48 ∷ x ∷ []) ds suffix e refl all ended (record { u = refl; large_u = refl; l = refl; large_l = refl })

    go : (b : Base) → Front b rest → (k : Base) (before ds suffix : List ℕ) → take n rest ≡ before ++ (ds ++ suffix) → IsInBase k before ds → Only (is_digit_of k) ds → IsSuffix suffix → n ≤ before_len b + prefix_len (is_digit_of b) (drop (before_len b) rest) + suffix_len (drop (before_len b + prefix_len (is_digit_of b) (drop (before_len b) rest)) rest)
    go Decimal f Decimal before ds suffix e w all ended = run is_digit 0 before ds suffix e (ap (λ (z : List ℕ). length z) w.0) all ended (record { u = refl; large_u = refl; l = refl; large_l = refl })
    go Octal f Decimal before ds suffix e w all ended = absurd (w.2 (sym (first_of_digits ds suffix w.1) ∙ sym (digits_first before ds suffix e w.0 w.1) ∙ f.0))
    go Hexadecimal f Decimal before ds suffix e w all ended = absurd (w.2 (sym (first_of_digits ds suffix w.1) ∙ sym (digits_first before ds suffix e w.0 w.1) ∙ f.0))
    go Decimal f Octal before ds suffix e w all ended = absurd (f (zero_first (ds ++ suffix) (e ∙ ap (λ (z : List ℕ). z ++ (ds ++ suffix)) w)))
    go Octal f Octal before ds suffix e w all ended = run is_octal 1 before ds suffix e (ap (λ (z : List ℕ). length z) w) all ended (record { u = refl; large_u = refl; l = refl; large_l = refl })
    go Hexadecimal f Octal before ds suffix e w all ended =
        let parts = and_parts (slice_index rest 1 == 120 || slice_index rest 1 == 88) (is_hexadecimal (slice_index rest 2)) f.1 in
        let small : n ≤ 1 = only_zero ds suffix (e ∙ ap (λ (z : List ℕ). z ++ (ds ++ suffix)) w) all ended (x_byte (slice_index rest 1) parts.0) in
        omega arith
    go b f Hexadecimal before ds suffix e w all ended = elim w.0 [
      | inl x ↦ hexadecimal_in b f 120 ds suffix (e ∙ ap (λ (z : List ℕ). z ++ (ds ++ suffix)) x) w.1 all ended refl
      | inr x ↦ hexadecimal_in b f 88 ds suffix (e ∙ ap (λ (z : List ℕ). z ++ (ds ++ suffix)) x) w.1 all ended refl
    ]

-- what stands at the front
abbrev pub start_of : List ℕ → ℕ
start_of rest = before_len (base_at rest)

abbrev pub digits_of : List ℕ → List ℕ
digits_of rest = take (digits_len rest) (drop (start_of rest) rest)

abbrev pub after_of : List ℕ → List ℕ
after_of rest = drop (start_of rest + digits_len rest) rest

pub constant_piece : (rest : List ℕ) → 0 < length rest → is_digit (slice_index rest 0) ≡ true → Constant (take (constant_len rest) rest)
constant_piece rest lt h = record {
  base = base_at rest;
  before = take (start_of rest) rest;
  digits = digits_of rest;
  suffix = take (suffix_len (after_of rest)) (after_of rest);
  whole = take-add (start_of rest + digits_len rest) (suffix_len (after_of rest)) rest ∙ ap (λ (z : List ℕ). z ++ take (suffix_len (after_of rest)) (after_of rest)) (take-add (start_of rest) (digits_len rest) rest) ∙ append_assoc (take (start_of rest) rest) (digits_of rest) (take (suffix_len (after_of rest)) (after_of rest));
  written = written (base_at rest) rest (front rest) lt h;
  all = only_run (is_digit_of (base_at rest)) (drop (start_of rest) rest) (digits_len rest) (omega arith);
  ended = suffixed (after_of rest);
}

pub constant_value : (rest : List ℕ) (lt : 0 < length rest) (h : is_digit (slice_index rest 0) ≡ true) → s.value (constant_piece rest lt h) ≡ value_from (radix (base_at rest)) 0 (digits_of rest)
unfolding constant_piece
constant_value rest lt h = refl

is_one : (after : List ℕ) → s.suffix_of (take (suffix_len after) after) ≡ suffix_at after
is_one [] = refl
is_one (b ∷ []) = go (is_unsigned_suffix b)
  where
    go : (t : Bool) → s.suffix_of (take (suffix_size (if t then kind.Unsigned else kind.Nothing)) (b ∷ [])) ≡ (if t then kind.Unsigned else kind.Nothing)
    go true = refl
    go false = refl
is_one (b ∷ c ∷ after) = go (is_unsigned_suffix b) (is_long_long_suffix (b ∷ c ∷ after))
  where
    go : (t u : Bool) → s.suffix_of (take (suffix_size (if t then kind.Unsigned else if u then kind.LongLong else kind.Nothing)) (b ∷ c ∷ after)) ≡ (if t then kind.Unsigned else if u then kind.LongLong else kind.Nothing)
    go true u = refl
    go false true = refl
    go false false = refl

pub constant_typed : (rest : List ℕ) (lt : 0 < length rest) (h : is_digit (slice_index rest 0) ≡ true) → s.constant_type (constant_piece rest lt h) ≡ s.type_of (s.is_decimal (base_at rest)) (suffix_at (after_of rest)) (value_from (radix (base_at rest)) 0 (digits_of rest))
unfolding constant_piece
constant_typed rest lt h = ap (λ (t : Suffix). s.type_of (s.is_decimal (base_at rest)) t (value_from (radix (base_at rest)) 0 (digits_of rest))) (is_one (after_of rest))

suffix_within : (after : List ℕ) → suffix_len after ≤ length after
suffix_within [] = omega arith
suffix_within (b ∷ []) = go (is_unsigned_suffix b)
  where
    go : (t : Bool) → suffix_size (if t then kind.Unsigned else kind.Nothing) ≤ length (b ∷ [])
    go true = omega arith
    go false = omega arith
suffix_within (b ∷ c ∷ after) = go (is_unsigned_suffix b) (is_long_long_suffix (b ∷ c ∷ after))
  where
    go : (t u : Bool) → suffix_size (if t then kind.Unsigned else if u then kind.LongLong else kind.Nothing) ≤ length (b ∷ c ∷ after)
    go true u = omega arith
    go false true = omega arith
    go false false = omega arith

before_within : (b : Base) (rest : List ℕ) → Front b rest → 0 < length rest → before_len b ≤ length rest
before_within Decimal rest f lt = omega arith
before_within Octal rest f lt = omega arith
before_within Hexadecimal rest f lt =
    let parts = and_parts (slice_index rest 1 == 120 || slice_index rest 1 == 88) (is_hexadecimal (slice_index rest 2)) f.1 in
    let large : 2 < length rest = third rest parts.1 in
    omega arith

pub constant_within : (rest : List ℕ) → 0 < length rest → constant_len rest ≤ length rest
constant_within rest lt =
    let start : start_of rest ≤ length rest = before_within (base_at rest) rest (front rest) lt in
    let digits : digits_len rest ≤ length (drop (start_of rest) rest) = prefix_len-le-length (is_digit_of (base_at rest)) (drop (start_of rest) rest) in
    let behind : length (drop (start_of rest) rest) ≡ length rest - start_of rest = length-drop (start_of rest) rest in
    let suffix : suffix_len (after_of rest) ≤ length (after_of rest) = suffix_within (after_of rest) in
    let after : length (after_of rest) ≡ length rest - (start_of rest + digits_len rest) = length-drop (start_of rest + digits_len rest) rest in
    omega arith

pub constant_longest : (rest : List ℕ) → 0 < length rest → is_digit (slice_index rest 0) ≡ true → Longest rest (constant_len rest)
constant_longest rest lt h = record {
  within = constant_within rest lt;
  shaped = s.constant (constant_piece rest lt h);
  longest = λ n le x. go n le x;
}
  where
    go : (n : ℕ) → n ≤ length rest → Shape (take n rest) → n ≤ constant_len rest
    go zero le x = omega arith
    go (suc n) le x = base_longest (base_at rest) rest (suc n) (front rest) le (constant_only (take (suc n) rest) x (front_class rest (suc n) (omega arith) x ∙ digit_class (slice_index rest 0) h))

pub radix_some : (b : Base) → 1 ≤ radix b
radix_some Decimal = omega arith
radix_some Octal = omega arith
radix_some Hexadecimal = omega arith

-- ---- what the code cuts a constant into

pub record Parts (rest : List ℕ) (base : Base) (start : ℕ) (on : List ℕ) (size : ℕ) (digits behind : List ℕ) (suffix : Suffix) (after : List ℕ) : Type 0 where
  pub of_base : base ≡ base_at rest
  pub of_start : start ≡ before_len base
  pub of_on : on ≡ drop start rest
  pub of_size : size ≡ prefix_len (is_digit_of base) on
  pub of_digits : digits ≡ take size on
  pub of_behind : behind ≡ drop size on
  pub of_suffix : suffix ≡ suffix_at behind
  pub of_after : after ≡ drop (suffix_size suffix) behind

pub record Found (rest : List ℕ) (base : Base) (start : ℕ) (digits : List ℕ) (suffix : Suffix) (after : List ℕ) : Type 0 where
  pub digits_are : digits ≡ digits_of rest
  pub suffix_is : suffix ≡ suffix_at (after_of rest)
  pub after_is : after ≡ drop (constant_len rest) rest
  pub len_is : start + length digits + suffix_size suffix ≡ constant_len rest
  pub all_are : Only (is_digit_of base) digits
  pub type_is : s.type_of (s.is_decimal base) suffix (value_from (radix base) 0 digits) ≡ s.type_of (s.is_decimal (base_at rest)) (suffix_at (after_of rest)) (value_from (radix (base_at rest)) 0 (digits_of rest))
  pub value_is : value_from (radix base) 0 digits ≡ value_from (radix (base_at rest)) 0 (digits_of rest)

pub parts_found : (rest : List ℕ) (base : Base) (start : ℕ) (on : List ℕ) (size : ℕ) (digits behind : List ℕ) (suffix : Suffix) (after : List ℕ) → Parts rest base start on size digits behind suffix after → Found rest base start digits suffix after
parts_found rest base start on size digits behind suffix after p =
    let start_is : start ≡ start_of rest = p.of_start ∙ ap before_len p.of_base in
    let on_is : on ≡ drop (start_of rest) rest = p.of_on ∙ ap (λ (n : ℕ). drop n rest) start_is in
    let size_is : size ≡ digits_len rest = p.of_size ∙ ap (λ (b : Base). prefix_len (is_digit_of b) on) p.of_base ∙ ap (prefix_len (is_digit_of (base_at rest))) on_is in
    let digits_is : digits ≡ digits_of rest = p.of_digits ∙ ap (λ (n : ℕ). take n on) size_is ∙ ap (take (digits_len rest)) on_is in
    let behind_is : behind ≡ after_of rest = p.of_behind ∙ ap (λ (n : ℕ). drop n on) size_is ∙ ap (drop (digits_len rest)) on_is ∙ drop-drop (digits_len rest) (start_of rest) rest in
    let suffix_same : suffix ≡ suffix_at (after_of rest) = p.of_suffix ∙ ap suffix_at behind_is in
    let suffix_long : suffix_size suffix ≡ suffix_len (after_of rest) = ap suffix_size suffix_same in
    let after_at : after ≡ drop (constant_len rest) rest = p.of_after ∙ ap (λ (n : ℕ). drop n behind) suffix_long ∙ ap (drop (suffix_len (after_of rest))) behind_is ∙ drop-drop (suffix_len (after_of rest)) (start_of rest + digits_len rest) rest in
    let count : length digits ≡ digits_len rest = ap (λ (z : List ℕ). length z) digits_is ∙ length-take-le (digits_len rest) (drop (start_of rest) rest) (prefix_len-le-length (is_digit_of (base_at rest)) (drop (start_of rest) rest)) in
    let numbers : value_from (radix base) 0 digits ≡ value_from (radix (base_at rest)) 0 (digits_of rest) = ap (λ (b : Base). value_from (radix b) 0 digits) p.of_base ∙ ap (value_from (radix (base_at rest)) 0) digits_is in
    record {
      digits_are = digits_is;
      suffix_is = suffix_same;
      after_is = after_at;
      len_is = omega arith;
      all_are = subst (Only (is_digit_of base)) (sym p.of_digits) (only_run (is_digit_of base) on size (let same = p.of_size in omega arith));
      type_is = ap (λ (b : Base). s.type_of (s.is_decimal b) suffix (value_from (radix base) 0 digits)) p.of_base ∙ ap (λ (n : Suffix). s.type_of (s.is_decimal (base_at rest)) n (value_from (radix base) 0 digits)) suffix_same ∙ ap (s.type_of (s.is_decimal (base_at rest)) (suffix_at (after_of rest))) numbers;
      value_is = numbers;
    }
