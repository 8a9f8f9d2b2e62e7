-- How a text is cut into tokens: at each offset the longest piece that has a shape, and its kind. The shapes are
-- those of C11 6.4, as far as this language has them.
use Rattle.std.specs.Prelude.{◌≡◌, ◌≢◌, ℕ, ◌+◌, ◌-◌, ◌*◌, ◌^◌, ◌<◌, ◌≤◌, Bool, true, false, ◌⊎◌, nat_lt, if◌then◌else◌}
use Rattle.std.specs.Prelude.{List, [], ◌∷◌, ◌++◌, length, take, drop, slice_index, codes, Option, Some, None}
use Rattle.std.specs.Char.{digit_value}
use Rattle.lex.specs.declared.constant.Base.{Base}
use Rattle.lex.specs.declared.constant.Base.TheVariants.{Decimal, Octal, Hexadecimal}
use Rattle.lex.specs.declared.constant.Suffix.{Suffix}
use Rattle.lex.specs.declared.constant.Suffix.TheVariants as suffix
use Rattle.lex.specs.declared.lexer.TheConstants.{MOST_BYTES}
use Rattle.lex.specs.declared.token.Fixed.{Fixed}
use Rattle.lex.specs.declared.token.Scalar.{Scalar}
use Rattle.lex.specs.declared.token.Scalar.TheVariants.{Int, Unsigned, LongLong}
use Rattle.lex.specs.Bytes.{is_white, is_blank, is_digit, is_octal, is_hexadecimal, is_letter, is_part, is_glue}
use Rattle.lex.specs.Bytes.{in_line, is_plain, is_escape, Only, starts}
use Rattle.lex.specs.Spelling.{spelling, Reserved}
use Rattle.lex.specs.Tokens.{Terminal, Tok}
use Rattle.lex.specs.Tokens as tokens

-- ---- the shapes of pieces

abbrev pub IsWhite : List ℕ → Type 0
IsWhite w = (length w ≡ 1) × (is_white (slice_index w 0) ≡ true)

-- a letter or `_`, then letters, digits and `_` (C11 6.4.2.1)
abbrev pub IsWord : List ℕ → Type 0
IsWord w = (0 < length w) × (is_letter (slice_index w 0) ≡ true) × Only is_part w

-- `*/` is at k
abbrev pub ClosesComment : List ℕ → ℕ → Type 0
ClosesComment w k = (slice_index w k ≡ 42) × (slice_index w (k + 1) ≡ 47)

abbrev pub OpensComment : List ℕ → Type 0
OpensComment w = (slice_index w 0 ≡ 47) × (slice_index w 1 ≡ 42)

-- from `/*` to the first `*/` after it (C11 6.4.9)
pub record IsComment (w : List ℕ) : Type 0 where
  pub opens : OpensComment w
  pub large : 4 ≤ length w
  pub closes : ClosesComment w (length w - 2)
  pub first : (k : ℕ) → 2 ≤ k → k + 2 < length w → ClosesComment w k → ⊥

-- `/*` without a `*/` after it
pub record IsOpen (w : List ℕ) : Type 0 where
  pub opens : OpensComment w
  pub large : 2 ≤ length w
  pub never : (k : ℕ) → 2 ≤ k → k + 2 ≤ length w → ClosesComment w k → ⊥

-- `//` and more of its line (C11 6.4.9)
pub record IsLine (w : List ℕ) : Type 0 where
  pub large : 2 ≤ length w
  pub slashes : (slice_index w 0 ≡ 47) × (slice_index w 1 ≡ 47)
  pub within : Only in_line w

-- `#` and more of its line
pub record IsDirective (w : List ℕ) : Type 0 where
  pub large : 1 ≤ length w
  pub number : slice_index w 0 ≡ 35
  pub within : Only in_line w

-- `#`, spaces and tabs, and then the word `include` (C11 6.10.2)
pub record IsInclude (w : List ℕ) : Type 0 where
  pub blanks : List ℕ
  pub rest : List ℕ
  pub written : w ≡ (35 ∷ blanks) ++ (codes "include" ++ rest)
  pub blank : Only is_blank blanks
  pub parted : starts is_part rest ≡ false

-- bytes that may be between a string's quotes
abbrev pub IsStringBody : List ℕ → Type 0
IsStringBody [] = Unit {0}
IsStringBody (a ∷ []) = is_plain a ≡ true
IsStringBody (a ∷ b ∷ w) = ((is_plain a ≡ true) × IsStringBody (b ∷ w))
    ⊎ ((a ≡ 92) × (is_escape b ≡ true) × IsStringBody w)

-- a string, by the bytes between its quotes (C11 6.4.5)
pub record IsString (w inner : List ℕ) : Type 0 where
  pub written : w ≡ 34 ∷ (inner ++ 34 ∷ [])
  pub inside : IsStringBody inner

-- ---- constants (C11 6.4.4.1)

abbrev pub radix : Base → ℕ
radix Decimal = 10
radix Octal = 8
radix Hexadecimal = 16

abbrev pub is_digit_of : Base → ℕ → Bool
is_digit_of Decimal = is_digit
is_digit_of Octal = is_octal
is_digit_of Hexadecimal = is_hexadecimal

-- the prefix of a base, and the digits of its constants
abbrev pub IsInBase : Base → (before digits : List ℕ) → Type 0
IsInBase Decimal before digits = (before ≡ []) × (0 < length digits) × (slice_index digits 0 ≢ 48)
IsInBase Octal before digits = before ≡ codes "0"
IsInBase Hexadecimal before digits = ((before ≡ codes "0x") ⊎ (before ≡ codes "0X")) × (0 < length digits)

-- nothing, `u`, `U`, `ll` or `LL`
abbrev pub IsSuffix : List ℕ → Type 0
IsSuffix s = (s ≡ []) ⊎ (s ≡ codes "u") ⊎ (s ≡ codes "U") ⊎ (s ≡ codes "ll") ⊎ (s ≡ codes "LL")

-- the meaning of a suffix: one byte is that of `unsigned`, two are those of `long long`
abbrev pub suffix_of : List ℕ → Suffix
suffix_of [] = suffix.Nothing
suffix_of (b ∷ []) = suffix.Unsigned
suffix_of (b ∷ c ∷ w) = suffix.LongLong

-- a constant, by its parts
pub record Constant (w : List ℕ) : Type 0 where
  pub base : Base
  pub before : List ℕ
  pub digits : List ℕ
  pub suffix : List ℕ
  pub whole : w ≡ before ++ (digits ++ suffix)
  pub written : IsInBase base before digits
  pub all : Only (is_digit_of base) digits
  pub ended : IsSuffix suffix

-- the number that digits denote, after digits that denote n
abbrev pub value_from : ℕ → ℕ → List ℕ → ℕ
value_from r n [] = n
value_from r n (d ∷ ds) = value_from r (n * r + digit_value d) ds

abbrev pub value : {w : List ℕ} → Constant w → ℕ
value c = value_from (radix c.base) 0 c.digits

abbrev pub is_decimal : Base → Bool
is_decimal Decimal = true
is_decimal Octal = false
is_decimal Hexadecimal = false

-- one more than a type's greatest number
abbrev pub limit : Scalar → ℕ
limit Int = 2 ^ 31
limit Unsigned = 2 ^ 32
limit LongLong = 2 ^ 63

-- the types that a constant may have, by whether its base is decimal and by its suffix
abbrev pub candidates : (is_decimal : Bool) → Suffix → List Scalar
candidates true suffix.Nothing = Int ∷ LongLong ∷ []
candidates false suffix.Nothing = Int ∷ Unsigned ∷ LongLong ∷ []
candidates is_decimal suffix.Unsigned = Unsigned ∷ []
candidates is_decimal suffix.LongLong = LongLong ∷ []

-- the first of these types that holds the value
abbrev pub first_holding : ℕ → List Scalar → Option Scalar
first_holding n [] = None
first_holding n (t ∷ ts) = if nat_lt n (limit t) then Some t else first_holding n ts

abbrev pub type_of : (is_decimal : Bool) → Suffix → ℕ → Option Scalar
type_of is_decimal s n = first_holding n (candidates is_decimal s)

-- the constant's type, if it has one
abbrev pub constant_type : {w : List ℕ} → Constant w → Option Scalar
constant_type c = type_of (is_decimal c.base) (suffix_of c.suffix) (value c)

-- ---- the longest piece, and its kind

-- bytes that have the shape of a piece; an unterminated comment, a lone quote and a line that begins with `#` have
-- one too
pub data Shape (w : List ℕ) : Type 0 where
  white : IsWhite w → Shape w
  comment : IsComment w → Shape w
  line : IsLine w → Shape w
  open_comment : IsOpen w → Shape w
  directive : IsDirective w → Shape w
  word : IsWord w → Shape w
  constant : Constant w → Shape w
  string : (inner : List ℕ) → IsString w inner → Shape w
  quote : w ≡ codes "\"" → Shape w
  fixed : (m : Fixed) → w ≡ spelling m → Shape w

-- the longest prefix with a shape has len bytes
pub record Longest (rest : List ℕ) (len : ℕ) : Type 0 where
  pub within : len ≤ length rest
  pub shaped : Shape (take len rest)
  pub longest : (n : ℕ) → n ≤ length rest → Shape (take n rest) → n ≤ len

-- no prefix has a shape
abbrev pub HasNoShape : List ℕ → Type 0
HasNoShape rest = (n : ℕ) → n ≤ length rest → Shape (take n rest) → ⊥

-- each byte on the line before the offset is a space or a tab
abbrev pub FirstOnLine : List ℕ → Type 0
FirstOnLine before =
    (k : ℕ) → k < length before → ((j : ℕ) → k ≤ j → j < length before → slice_index before j ≢ 10) →
    is_blank (slice_index before k) ≡ true

-- the separators of tokens: white space, comments, and a line with `#include`
pub data Gap (before w : List ℕ) : Type 0 where
  white : IsWhite w → Gap before w
  comment : IsComment w → Gap before w
  line : IsLine w → Gap before w
  include : IsDirective w → FirstOnLine before → IsInclude w → Gap before w

-- the kind of a piece
pub data Says (w : List ℕ) : Terminal → Type 0 where
  name : IsWord w → ((m : Fixed) → w ≢ spelling m) → ¬ (Reserved w) → Says w (tokens.name w)
  reserved : Reserved w → Says w tokens.reserved
  fixed : (m : Fixed) → w ≡ spelling m → Says w (tokens.fixed m)
  constant : (c : Constant w) (t : Scalar) → constant_type c ≡ Some t → Says w (tokens.constant (value c) t)
  string : (inner : List ℕ) → IsString w inner → Says w (tokens.string_literal inner)

-- the bytes that may directly follow a token
abbrev pub Parted : Terminal → List ℕ → Type 0
Parted (tokens.name w) after = Unit {0}
Parted (tokens.constant n t) after = starts is_glue after ≡ false
Parted (tokens.string_literal w) after = Unit {0}
Parted (tokens.fixed m) after = Unit {0}
Parted tokens.reserved after = Unit {0}

-- the len bytes at the offset belong to no token
pub record IsGap (text : List ℕ) (at len : ℕ) : Type 0 where
  pub front : Longest (drop at text) len
  pub gap : Gap (take at text) (take len (drop at text))

-- the len bytes at the offset are this token
pub record IsToken (text : List ℕ) (at len : ℕ) (says : Terminal) : Type 0 where
  pub front : Longest (drop at text) len
  pub means : Says (take len (drop at text)) says
  pub parted : Parted says (drop len (drop at text))

-- the text up to the offset is cut into these tokens
pub data Cut (text : List ℕ) : ℕ → List Tok → Type 0 where
  start : Cut text 0 []
  gap : {at : ℕ} {ts : List Tok} (len : ℕ) → Cut text at ts → IsGap text at len → Cut text (at + len) ts
  token : {at : ℕ} {ts : List Tok} (len : ℕ) (says : Terminal) → Cut text at ts → IsToken text at len says →
      Cut text (at + len) (ts ++ record { terminal = says; span = record { start = at; «end» = at + len } } ∷ [])

-- the text's tokens
pub record IsLexed (text : List ℕ) (ts : List Tok) : Type 0 where
  pub short : length text ≤ MOST_BYTES
  pub cut : Cut text (length text) ts
