-- A text is cut in one way.
use Rattle.std.proofs.Common.{◌≡◌, ◌≢◌, ℕ, ◌<◌, ◌⊎◌, inl, inr, Bool, true, false, List, [], ◌∷◌, ◌++◌, length, take, drop, slice_index, Option, Some, refl, sym, ap, ◌∙◌, arith, subst}
use Rattle.std.specs.List.{prefix_len}
use Rattle.std.proofs.lemmas.List.{take_at, drop_at}
use Rattle.lex.specs.declared.constant.Base.{Base}
use Rattle.lex.specs.declared.constant.Base.TheVariants.{Decimal, Octal, Hexadecimal}
use Rattle.lex.specs.declared.token.Fixed.{Fixed}
use Rattle.lex.specs.declared.token.Scalar.{Scalar}
use Rattle.lex.specs.Spelling.{spelling}
use Rattle.lex.specs.Tokens.{Terminal}
use Rattle.lex.specs.Tokens as tokens
use Rattle.lex.specs.Bytes.{Only, starts, is_octal}
use Rattle.lex.specs.Pieces.{is_digit_of, IsInBase, IsSuffix, Constant, constant_type, value, value_from, radix, Says, Gap, IsString, IsWord}
use Rattle.lex.specs.Pieces as s
use Rattle.lex.specs.Bytes as bytes
use Rattle.lex.proofs.pieces.Classes.{Class, space, letter, digit, number, quotes, slash, class, begins_fixed, no_fixed, constant_first, white_class, letter_class, digit_class, byte_class}
use Rattle.lex.proofs.pieces.Directives.{run_is}
use Rattle.lex.proofs.pieces.Strings.{inside_same}
use Rattle.lex.proofs.pieces.Spellings.{one_fixed, reserved_not_fixed, reserved_class, slash_second}

clash : (b : Bool) → b ≡ true → b ≡ false → ⊥
clash b t f = cc

-- ---- a constant is written in one way

suffix_stops : (b : Base) (suffix : List ℕ) → IsSuffix suffix → starts (is_digit_of b) suffix ≡ false
suffix_stops Decimal suffix (inl e) = ap (starts (is_digit_of Decimal)) e
suffix_stops Decimal suffix (inr (inl e)) = ap (starts (is_digit_of Decimal)) e
suffix_stops Decimal suffix (inr (inr (inl e))) = ap (starts (is_digit_of Decimal)) e
suffix_stops Decimal suffix (inr (inr (inr (inl e)))) = ap (starts (is_digit_of Decimal)) e
suffix_stops Decimal suffix (inr (inr (inr (inr e)))) = ap (starts (is_digit_of Decimal)) e
suffix_stops Octal suffix (inl e) = ap (starts (is_digit_of Octal)) e
suffix_stops Octal suffix (inr (inl e)) = ap (starts (is_digit_of Octal)) e
suffix_stops Octal suffix (inr (inr (inl e))) = ap (starts (is_digit_of Octal)) e
suffix_stops Octal suffix (inr (inr (inr (inl e)))) = ap (starts (is_digit_of Octal)) e
suffix_stops Octal suffix (inr (inr (inr (inr e)))) = ap (starts (is_digit_of Octal)) e
suffix_stops Hexadecimal suffix (inl e) = ap (starts (is_digit_of Hexadecimal)) e
suffix_stops Hexadecimal suffix (inr (inl e)) = ap (starts (is_digit_of Hexadecimal)) e
suffix_stops Hexadecimal suffix (inr (inr (inl e))) = ap (starts (is_digit_of Hexadecimal)) e
suffix_stops Hexadecimal suffix (inr (inr (inr (inl e)))) = ap (starts (is_digit_of Hexadecimal)) e
suffix_stops Hexadecimal suffix (inr (inr (inr (inr e)))) = ap (starts (is_digit_of Hexadecimal)) e

record Same (ds es sf tf : List ℕ) : Type 0 where
  digits : ds ≡ es
  suffix : sf ≡ tf

run_same : (b : Base) (ds es sf tf : List ℕ) → ds ++ sf ≡ es ++ tf → Only (is_digit_of b) ds → Only (is_digit_of b) es → IsSuffix sf → IsSuffix tf → Same ds es sf tf
run_same b ds es sf tf e all more ended end =
    let size : length ds ≡ length es = sym (run_is (is_digit_of b) ds sf all (suffix_stops b sf ended)) ∙ ap (prefix_len (is_digit_of b)) e ∙ run_is (is_digit_of b) es tf more (suffix_stops b tf end) in
    record {
      digits = sym (take_at ds sf (length ds) refl) ∙ ap (take (length ds)) e ∙ ap (λ (n : ℕ). take n (es ++ tf)) size ∙ take_at es tf (length es) refl;
      suffix = sym (drop_at ds sf (length ds) refl) ∙ ap (drop (length ds)) e ∙ ap (λ (n : ℕ). drop n (es ++ tf)) size ∙ drop_at es tf (length es) refl;
    }

-- what a constant says, by its parts
abbrev Whole : List ℕ → Base → List ℕ → List ℕ → List ℕ → Type 0
Whole w b before ds sf = (w ≡ before ++ (ds ++ sf)) × IsInBase b before ds × Only (is_digit_of b) ds × IsSuffix sf

abbrev Agree : Base → Base → (ds es sf tf : List ℕ) → Type 0
Agree b k ds es sf tf = (b ≡ k) × (ds ≡ es) × (sf ≡ tf)

-- the bytes behind what a base puts before its digits
octal_rest : (w before ds sf : List ℕ) → Whole w Octal before ds sf → w ≡ 48 ∷ (ds ++ sf)
octal_rest w before ds sf h = h.0 ∙ ap (λ (z : List ℕ). z ++ (ds ++ sf)) h.1

decimal_rest : (w before ds sf : List ℕ) → Whole w Decimal before ds sf → w ≡ ds ++ sf
decimal_rest w before ds sf h = h.0 ∙ ap (λ (z : List ℕ). z ++ (ds ++ sf)) h.1.0

decimal_first : (w before ds sf : List ℕ) → Whole w Decimal before ds sf → slice_index w 0 ≡ 48 → ⊥
decimal_first w before [] sf h e = let lt : 0 < 0 = h.1.1 in absurd (omega arith)
decimal_first w before (d ∷ ds) sf h e = h.1.2 (sym (ap (λ (z : List ℕ). slice_index z 0) (decimal_rest w before (d ∷ ds) sf h)) ∙ e)

record Hexed (w ds sf : List ℕ) : Type 0 where
  byte : ℕ
  whole : w ≡ 48 ∷ byte ∷ (ds ++ sf)
  not_octal : is_octal byte ≡ false
  none : bytes.is_hexadecimal byte ≡ false
  u : byte ≢ 117
  large : byte ≢ 85
  long : byte ≢ 108
  large_long : byte ≢ 76

hexed : (w before ds sf : List ℕ) → Whole w Hexadecimal before ds sf → Hexed w ds sf
hexed w before ds sf h = elim h.1.0 [
  | inl e ↦ record { byte = 120; whole = h.0 ∙ ap (λ (z : List ℕ). z ++ (ds ++ sf)) e; not_octal = refl; none = refl; u = λ p. omega arith; large = λ p. omega arith; long = λ p. omega arith; large_long = λ p. omega arith }
  | inr e ↦ record { byte = 88; whole = h.0 ∙ ap (λ (z : List ℕ). z ++ (ds ++ sf)) e; not_octal = refl; none = refl; u = λ p. omega arith; large = λ p. omega arith; long = λ p. omega arith; large_long = λ p. omega arith }
]

tails : {x y : ℕ} {xs ys : List ℕ} → x ∷ xs ≡ y ∷ ys → (x ≡ y) × (xs ≡ ys)
tails e = (cc, cc)

octal_hexed : (w before ds sf es tf : List ℕ) → Whole w Octal before ds sf → Hexed w es tf → ⊥
octal_hexed w before ds sf es tf h x = go ds sf h.2 h.3 (tails (sym (octal_rest w before ds sf h) ∙ x.whole)).1
  where
    go : (ds sf : List ℕ) → Only is_octal ds → IsSuffix sf → ds ++ sf ≡ x.byte ∷ (es ++ tf) → ⊥
    go (d ∷ ds) sf all ended e = clash (is_octal d) (all 0 (omega arith)) (ap is_octal (tails e).0 ∙ x.not_octal)
    go [] sf all (inl n) e = let f : [] ≡ x.byte ∷ (es ++ tf) = sym n ∙ e in cc
    go [] sf all (inr (inl n)) e = x.u (sym (tails (sym n ∙ e)).0)
    go [] sf all (inr (inr (inl n))) e = x.large (sym (tails (sym n ∙ e)).0)
    go [] sf all (inr (inr (inr (inl n)))) e = x.long (sym (tails (sym n ∙ e)).0)
    go [] sf all (inr (inr (inr (inr n)))) e = x.large_long (sym (tails (sym n ∙ e)).0)

agree : (w : List ℕ) (b k : Base) (before after ds es sf tf : List ℕ) → Whole w b before ds sf → Whole w k after es tf → Agree b k ds es sf tf
agree w Decimal Decimal before after ds es sf tf h j =
    let q = run_same Decimal ds es sf tf (sym (decimal_rest w before ds sf h) ∙ decimal_rest w after es tf j) h.2 j.2 h.3 j.3 in
    (refl, q.digits, q.suffix)
agree w Decimal Octal before after ds es sf tf h j = absurd (decimal_first w before ds sf h (ap (λ (z : List ℕ). slice_index z 0) (octal_rest w after es tf j)))
agree w Decimal Hexadecimal before after ds es sf tf h j = absurd (decimal_first w before ds sf h (ap (λ (z : List ℕ). slice_index z 0) (hexed w after es tf j).whole))
agree w Octal Decimal before after ds es sf tf h j = absurd (decimal_first w after es tf j (ap (λ (z : List ℕ). slice_index z 0) (octal_rest w before ds sf h)))
agree w Octal Octal before after ds es sf tf h j =
    let q = run_same Octal ds es sf tf (tails (sym (octal_rest w before ds sf h) ∙ octal_rest w after es tf j)).1 h.2 j.2 h.3 j.3 in
    (refl, q.digits, q.suffix)
agree w Octal Hexadecimal before after ds es sf tf h j = absurd (octal_hexed w before ds sf es tf h (hexed w after es tf j))
agree w Hexadecimal Decimal before after ds es sf tf h j = absurd (decimal_first w after es tf j (ap (λ (z : List ℕ). slice_index z 0) (hexed w before ds sf h).whole))
agree w Hexadecimal Octal before after ds es sf tf h j = absurd (octal_hexed w after es tf ds sf j (hexed w before ds sf h))
agree w Hexadecimal Hexadecimal before after ds es sf tf h j =
    let x = hexed w before ds sf h in
    let y = hexed w after es tf j in
    let q = run_same Hexadecimal ds es sf tf (tails (tails (sym x.whole ∙ y.whole)).1).1 h.2 j.2 h.3 j.3 in
    (refl, q.digits, q.suffix)

pub alike : {w : List ℕ} (c d : Constant w) → Agree c.base d.base c.digits d.digits c.suffix d.suffix
alike {w} c d = agree w c.base d.base c.before d.before c.digits d.digits c.suffix d.suffix (c.whole, c.written, c.all, c.ended) (d.whole, d.written, d.all, d.ended)

pub same_value : {w : List ℕ} (c d : Constant w) → value c ≡ value d
same_value {w} c d =
    let q = alike c d in
    ap (λ (b : Base). value_from (radix b) 0 c.digits) q.0 ∙ ap (value_from (radix d.base) 0) q.1

pub same_type : {w : List ℕ} (c d : Constant w) → constant_type c ≡ constant_type d
same_type {w} c d =
    let q = alike c d in
    ap (λ (b : Base). s.type_of (s.is_decimal b) (s.suffix_of c.suffix) (value c)) q.0 ∙ ap (λ (z : List ℕ). s.type_of (s.is_decimal d.base) (s.suffix_of z) (value c)) q.2 ∙ ap (s.type_of (s.is_decimal d.base) (s.suffix_of d.suffix)) (same_value c d)

-- ---- a piece says one thing

pub word_class : (w : List ℕ) → IsWord w → class w ≡ letter
word_class w h = letter_class (slice_index w 0) h.1

pub constant_class : {w : List ℕ} → Constant w → class w ≡ digit
constant_class {w} c = digit_class (slice_index w 0) (constant_first c)

pub string_class : (w inner : List ℕ) → IsString w inner → class w ≡ quotes
string_class w inner h = ap class h.written

apart : (w : List ℕ) (a b : Class) → class w ≡ a → class w ≡ b → a ≡ b
apart w a b e f = sym e ∙ f

letter_digit : (w : List ℕ) → class w ≡ letter → class w ≡ digit → ⊥
letter_digit w e f = let g = apart w letter digit e f in cc

letter_quotes : (w : List ℕ) → class w ≡ letter → class w ≡ quotes → ⊥
letter_quotes w e f = let g = apart w letter quotes e f in cc

digit_quotes : (w : List ℕ) → class w ≡ digit → class w ≡ quotes → ⊥
digit_quotes w e f = let g = apart w digit quotes e f in cc

-- no token of one spelling begins like this
pub no_fixed_word : (w : List ℕ) (k : Fixed) (c : Class) → w ≡ spelling k → class w ≡ c → begins_fixed c ≡ false → ⊥
no_fixed_word w k c e f b = no_fixed k c (sym (ap class e) ∙ f) b

one_inner : (w a b : List ℕ) → IsString w a → IsString w b → a ≡ b
one_inner w a b h j =
    let e : a ++ 34 ∷ [] ≡ b ++ 34 ∷ [] = (tails (sym h.written ∙ j.written)).1 in
    let size : length a ≡ length b = inside_same a b [] [] e h.inside j.inside in
    sym (take_at a (34 ∷ []) (length a) refl) ∙ ap (take (length a)) e ∙ ap (λ (n : ℕ). take n (b ++ 34 ∷ [])) size ∙ take_at b (34 ∷ []) (length b) refl

pub says_same : (w : List ℕ) (t u : Terminal) → Says w t → Says w u → t ≡ u
says_same w t u (s.name h n r) (s.name j o q) = refl
says_same w t u (s.name h n r) (s.reserved q) = absurd (r q)
says_same w t u (s.name h n r) (s.fixed k e) = absurd (n k e)
says_same w t u (s.name h n r) (s.constant c v e) = absurd (letter_digit w (word_class w h) (constant_class c))
says_same w t u (s.name h n r) (s.string i j) = absurd (letter_quotes w (word_class w h) (string_class w i j))
says_same w t u (s.reserved r) (s.name j o q) = absurd (q r)
says_same w t u (s.reserved r) (s.reserved q) = refl
says_same w t u (s.reserved r) (s.fixed k e) = absurd (reserved_not_fixed w k r e)
says_same w t u (s.reserved r) (s.constant c v e) = absurd (letter_digit w (reserved_class w r) (constant_class c))
says_same w t u (s.reserved r) (s.string i j) = absurd (letter_quotes w (reserved_class w r) (string_class w i j))
says_same w t u (s.fixed k e) (s.name j o q) = absurd (o k e)
says_same w t u (s.fixed k e) (s.reserved q) = absurd (reserved_not_fixed w k q e)
says_same w t u (s.fixed k e) (s.fixed l f) = ap tokens.fixed (one_fixed w k l e f)
says_same w t u (s.fixed k e) (s.constant c v f) = absurd (no_fixed_word w k digit e (constant_class c) refl)
says_same w t u (s.fixed k e) (s.string i j) = absurd (no_fixed_word w k quotes e (string_class w i j) refl)
says_same w t u (s.constant c v e) (s.name j o q) = absurd (letter_digit w (word_class w j) (constant_class c))
says_same w t u (s.constant c v e) (s.reserved q) = absurd (letter_digit w (reserved_class w q) (constant_class c))
says_same w t u (s.constant c v e) (s.fixed k f) = absurd (no_fixed_word w k digit f (constant_class c) refl)
says_same w t u (s.constant c v e) (s.constant d x f) =
    let g : ◌≡◌ {A = Option Scalar} (Some v) (Some x) = sym e ∙ same_type c d ∙ f in
    let types : v ≡ x = cc in
    ap (λ (n : ℕ). tokens.constant n v) (same_value c d) ∙ ap (tokens.constant (value d)) types
says_same w t u (s.constant c v e) (s.string i j) = absurd (digit_quotes w (constant_class c) (string_class w i j))
says_same w t u (s.string i h) (s.name j o q) = absurd (letter_quotes w (word_class w j) (string_class w i h))
says_same w t u (s.string i h) (s.reserved q) = absurd (letter_quotes w (reserved_class w q) (string_class w i h))
says_same w t u (s.string i h) (s.fixed k e) = absurd (no_fixed_word w k quotes e (string_class w i h) refl)
says_same w t u (s.string i h) (s.constant c v e) = absurd (digit_quotes w (constant_class c) (string_class w i h))
says_same w t u (s.string i h) (s.string k j) = ap tokens.string_literal (one_inner w i k h j)

-- ---- what stands between tokens says nothing

-- the classes of tokens that are no punctuator
abbrev pub TokenClass : Class → Type 0
TokenClass letter = Unit {0}
TokenClass digit = Unit {0}
TokenClass quotes = Unit {0}
TokenClass _ = ⊥

pub says_class : (w : List ℕ) (t : Terminal) → Says w t → TokenClass (class w) ⊎ ((k : Fixed) × (w ≡ spelling k))
says_class w t (s.name h n r) = inl (subst TokenClass (sym (word_class w h)) tt)
says_class w t (s.reserved r) = inl (subst TokenClass (sym (reserved_class w r)) tt)
says_class w t (s.fixed k e) = inr (k, e)
says_class w t (s.constant c v e) = inl (subst TokenClass (sym (constant_class c)) tt)
says_class w t (s.string i h) = inl (subst TokenClass (sym (string_class w i h)) tt)

pub comment_class : (w : List ℕ) → s.IsComment w → class w ≡ slash
comment_class w h = byte_class (slice_index w 0) 47 h.opens.0

pub line_class : (w : List ℕ) → s.IsLine w → class w ≡ slash
line_class w h = byte_class (slice_index w 0) 47 h.slashes.0

pub second_of : (w : List ℕ) (k : Fixed) (b : ℕ) → w ≡ spelling k → class w ≡ slash → slice_index w 1 ≡ b → (b ≡ 0) ⊎ (b ≡ 61)
second_of w k b e c h =
    let same : slice_index (spelling k) 1 ≡ b = ap (λ (z : List ℕ). slice_index z 1) (sym e) ∙ h in
    elim (slash_second k (sym (ap class e) ∙ c)) [ inl z ↦ inl (sym same ∙ z) | inr z ↦ inr (sym same ∙ z) ]

pub second_apart : (b : ℕ) → (b ≡ 0) ⊎ (b ≡ 61) → (b ≡ 42) ⊎ (b ≡ 47) → ⊥
second_apart b (inl e) (inl f) = omega arith
second_apart b (inl e) (inr f) = omega arith
second_apart b (inr e) (inl f) = omega arith
second_apart b (inr e) (inr f) = omega arith

pub gap_silent : (before w : List ℕ) (t : Terminal) → Gap before w → Says w t → ⊥
gap_silent before w t g h = by g (says_class w t h)
  where
    by : Gap before w → TokenClass (class w) ⊎ ((k : Fixed) × (w ≡ spelling k)) → ⊥
    by (s.white j) (inl c) = subst TokenClass (white_class (slice_index w 0) j.1) c
    by (s.white j) (inr k) = no_fixed_word w k.0 space k.1 (white_class (slice_index w 0) j.1) refl
    by (s.comment j) (inl c) = subst TokenClass (comment_class w j) c
    by (s.comment j) (inr k) = second_apart (slice_index w 1) (second_of w k.0 (slice_index w 1) k.1 (comment_class w j) refl) (inl j.opens.1)
    by (s.line j) (inl c) = subst TokenClass (line_class w j) c
    by (s.line j) (inr k) = second_apart (slice_index w 1) (second_of w k.0 (slice_index w 1) k.1 (line_class w j) refl) (inr j.slashes.1)
    by (s.include d f i) (inl c) = subst TokenClass (byte_class (slice_index w 0) 35 d.number) c
    by (s.include d f i) (inr k) = no_fixed_word w k.0 number k.1 (byte_class (slice_index w 0) 35 d.number) refl
