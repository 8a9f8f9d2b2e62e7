-- The prefix of a text that begins with a digit.
use Rattle.std.specs.Prelude.{◌≡◌, ℕ, ◌+◌, ◌^◌, ◌≤◌, Bool, false, ◌&&◌, ◌||◌, ◌==◌, if◌then◌else◌, List, [], ◌∷◌, drop}
use Rattle.std.specs.Prelude.{slice_index, Option, Some, None}
use Rattle.std.specs.List.{prefix_len}
use Rattle.lex.specs.declared.constant.Base.{Base}
use Rattle.lex.specs.declared.constant.Base.TheVariants.{Decimal, Octal, Hexadecimal}
use Rattle.lex.specs.declared.constant.Suffix.{Suffix}
use Rattle.lex.specs.declared.constant.Suffix.TheVariants as suffix
use Rattle.lex.specs.declared.token.Scalar.{Scalar}
use Rattle.lex.specs.Bytes.{is_hexadecimal}
use Rattle.lex.specs.Pieces.{is_digit_of, is_decimal, type_of}

abbrev pub base_at : List ℕ → Base
base_at rest =
    if slice_index rest 0 == 48 then
    (if (slice_index rest 1 == 120 || slice_index rest 1 == 88) && is_hexadecimal (slice_index rest 2) then Hexadecimal
    else Octal)
    else Decimal

-- the length of a base's prefix
abbrev pub before_len : Base → ℕ
before_len Decimal = 0
before_len Octal = 1
before_len Hexadecimal = 2

-- `u` or `U`
abbrev pub is_unsigned_suffix : ℕ → Bool
is_unsigned_suffix b = b == 117 || b == 85

-- two of `l` or two of `L`
abbrev pub is_long_long_suffix : List ℕ → Bool
is_long_long_suffix [] = false
is_long_long_suffix (a ∷ []) = false
is_long_long_suffix (a ∷ b ∷ rest) = (a == 108 && b == 108) || (a == 76 && b == 76)

abbrev pub suffix_at : List ℕ → Suffix
suffix_at [] = suffix.Nothing
suffix_at (b ∷ rest) =
    if is_unsigned_suffix b then suffix.Unsigned else
    if is_long_long_suffix (b ∷ rest) then suffix.LongLong else suffix.Nothing

abbrev pub suffix_size : Suffix → ℕ
suffix_size suffix.Nothing = 0
suffix_size suffix.Unsigned = 1
suffix_size suffix.LongLong = 2

abbrev pub suffix_len : List ℕ → ℕ
suffix_len rest = suffix_size (suffix_at rest)

abbrev pub digits_len : List ℕ → ℕ
digits_len rest = prefix_len (is_digit_of (base_at rest)) (drop (before_len (base_at rest)) rest)

abbrev pub constant_len : List ℕ → ℕ
constant_len rest =
    before_len (base_at rest) + digits_len rest + suffix_len (drop (before_len (base_at rest) + digits_len rest) rest)

-- a number that the largest type holds, or none if it is larger
abbrev pub GivesNumber : Option ℕ → ℕ → Type 0
GivesNumber (Some n) v = n ≡ v
GivesNumber None v = 2 ^ 63 ≤ v

-- a value with its type, or none if it has no type
abbrev pub GivesTyped : Option (ℕ × Scalar) → Base → Suffix → ℕ → Type 0
GivesTyped (Some x) base s v = (x.0 ≡ v) × (type_of (is_decimal base) s v ≡ Some x.1)
GivesTyped None base s v = type_of (is_decimal base) s v ≡ None
