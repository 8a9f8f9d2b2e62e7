-- Worked examples of the definitions.
use Rattle.std.proofs.Common.{◌≡◌, [], ◌∷◌, codes, Some, None, true, false, refl}
use Rattle.lex.specs.declared.token.Fixed.TheVariants.{Punctuator}
use Rattle.lex.specs.declared.token.Punctuator.TheVariants as punct
use Rattle.lex.specs.declared.token.Scalar.TheVariants.{Unsigned, LongLong}
use Rattle.lex.specs.declared.constant.Suffix.TheVariants as suffix
use Rattle.lex.specs.Tokens.{string_value}
use Rattle.lex.specs.Spelling.{spelling}
use Rattle.lex.specs.Faults.{character_len}
use Rattle.lex.specs.Pieces.{value_from, type_of}
use Rattle.lex.specs.Places.{line_of, column_of}

-- `0x1F` and `017`
hexadecimal_31 : value_from 16 0 (codes "1F") ≡ 31
hexadecimal_31 = refl

octal_15 : value_from 8 0 (codes "17") ≡ 15
octal_15 = refl

-- 2147483648 is unsigned with a suffix or in another base, and else `long long`
large_decimal : type_of true suffix.Nothing 2147483648 ≡ Some LongLong
large_decimal = refl

large_suffixed : type_of true suffix.Unsigned 2147483648 ≡ Some Unsigned
large_suffixed = refl

large_octal : type_of false suffix.Nothing 2147483648 ≡ Some Unsigned
large_octal = refl

-- 4294967296 is `long long`, and has no type with `u`
larger_octal : type_of false suffix.Nothing 4294967296 ≡ Some LongLong
larger_octal = refl

larger_suffixed : type_of true suffix.Unsigned 4294967296 ≡ None
larger_suffixed = refl

-- no type holds 9223372036854775808
too_large : type_of true suffix.Nothing 9223372036854775808 ≡ None
too_large = refl

largest : type_of false suffix.LongLong 9223372036854775807 ≡ Some LongLong
largest = refl

-- a line feed and a quote, as they are written
escapes : string_value (codes "a\\n\\\"") ≡ 97 ∷ 10 ∷ 34 ∷ []
escapes = refl

-- a character of three bytes: U+FEFF, which some editors write first
three_bytes : character_len (239 ∷ 187 ∷ 191 ∷ codes "int") ≡ 3
three_bytes = refl

-- the third byte of the second line
place_line : line_of (codes "a\nb c") 4 ≡ 2
place_line = refl

place_column : column_of (codes "a\nb c") 4 ≡ 3
place_column = refl

longest : spelling (Punctuator punct.ShiftRightAssign) ≡ codes ">>="
longest = refl
