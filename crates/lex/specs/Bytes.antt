-- Classes of bytes, which pieces of a text consist of. Letters and digits are those of C11 5.2.1, in ASCII.
use Rattle.std.specs.Prelude.{◌≡◌, ℕ, ◌<◌, Bool, true, false, not, ◌&&◌, ◌||◌, ◌==◌, nat_le, nat_lt, List, [], ◌∷◌}
use Rattle.std.specs.Prelude.{length, slice_index}

-- white space: space, tab, LF, vertical tab, form feed (C11 6.4), and CR
abbrev pub is_white : ℕ → Bool
is_white b = b == 32 || (nat_le 9 b && nat_le b 13)

-- space or tab
abbrev pub is_blank : ℕ → Bool
is_blank b = b == 32 || b == 9

abbrev pub is_digit : ℕ → Bool
is_digit b = nat_le 48 b && nat_le b 57

abbrev pub is_octal : ℕ → Bool
is_octal b = nat_le 48 b && nat_le b 55

abbrev pub is_hexadecimal : ℕ → Bool
is_hexadecimal b = is_digit b || (nat_le 97 b && nat_le b 102) || (nat_le 65 b && nat_le b 70)

-- a letter or `_`
abbrev pub is_letter : ℕ → Bool
is_letter b = (nat_le 97 b && nat_le b 122) || (nat_le 65 b && nat_le b 90) || b == 95

-- a letter, a digit or `_`
abbrev pub is_part : ℕ → Bool
is_part b = is_letter b || is_digit b

-- a byte that can't directly follow a constant: a letter, a digit, `_` or `.`
abbrev pub is_glue : ℕ → Bool
is_glue b = is_part b || b == 46

-- any byte but LF
abbrev pub in_line : ℕ → Bool
in_line b = not (b == 10)

-- a continuation byte of a character (UTF-8, RFC 3629)
abbrev pub is_continuation : ℕ → Bool
is_continuation b = nat_le 128 b && nat_lt b 192

-- each byte of a list passes a test
abbrev pub Only : (ℕ → Bool) → List ℕ → Type 0
Only p w = (k : ℕ) → k < length w → p (slice_index w k) ≡ true

-- there is a first byte, and it passes a test
abbrev pub starts : (ℕ → Bool) → List ℕ → Bool
starts p [] = false
starts p (b ∷ w) = p b

-- a byte that denotes itself in a string: 0x20 to 0x7E except `"` and the backslash
abbrev pub is_plain : ℕ → Bool
is_plain b = nat_le 32 b && nat_le b 126 && not (b == 34) && not (b == 92)

-- a byte that may follow a backslash: `n`, `t`, the backslash or `"`
abbrev pub is_escape : ℕ → Bool
is_escape b = b == 110 || b == 116 || b == 92 || b == 34
