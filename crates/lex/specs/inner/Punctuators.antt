-- The punctuators by their bytes.
use Rattle.std.specs.Prelude.{◌≡◌, ◌≢◌, ℕ, false, slice_index, if◌then◌else◌, List, [], ◌∷◌, Option, Some, None}
use Rattle.std.specs.Str.{bytes_eq}
use Rattle.lex.specs.declared.token.Fixed.{Fixed}
use Rattle.lex.specs.declared.token.Fixed.TheVariants as fixed
use Rattle.lex.specs.declared.token.Punctuator.{Punctuator}
use Rattle.lex.specs.declared.token.Punctuator.TheVariants as punct
use Rattle.lex.specs.Spelling.{spelling}
use Rattle.lex.specs.Bytes.{is_white, is_letter, is_digit}

-- the punctuators of one byte, of two and of three
abbrev pub singles : List Punctuator
singles =
    punct.OpenBrace ∷ punct.CloseBrace ∷ punct.OpenParen ∷ punct.CloseParen ∷ punct.OpenBracket ∷
    punct.CloseBracket ∷ punct.Semicolon ∷ punct.Comma ∷ punct.Question ∷ punct.Colon ∷ punct.Assign ∷ punct.Or ∷
    punct.Xor ∷ punct.And ∷ punct.Less ∷ punct.Greater ∷ punct.Plus ∷ punct.Minus ∷ punct.Star ∷ punct.Slash ∷
    punct.Percent ∷ punct.Not ∷ punct.Complement ∷ []

abbrev pub doubles : List Punctuator
doubles =
    punct.AddAssign ∷ punct.SubtractAssign ∷ punct.MultiplyAssign ∷ punct.DivideAssign ∷ punct.RemainderAssign ∷
    punct.AndAssign ∷ punct.OrAssign ∷ punct.XorAssign ∷ punct.Increment ∷ punct.Decrement ∷ punct.LogicalOr ∷
    punct.LogicalAnd ∷ punct.Equal ∷ punct.NotEqual ∷ punct.LessEqual ∷ punct.GreaterEqual ∷ punct.ShiftLeft ∷
    punct.ShiftRight ∷ []

abbrev pub triples : List Punctuator
triples = punct.ShiftLeftAssign ∷ punct.ShiftRightAssign ∷ []

-- the punctuator of a list with this spelling
abbrev pub spelled_so : List Punctuator → List ℕ → Option Fixed
spelled_so [] w = None
spelled_so (k ∷ ks) w =
    if bytes_eq w (spelling (fixed.Punctuator k)) then Some (fixed.Punctuator k) else spelled_so ks w

-- the punctuator of one byte at the front
abbrev pub one : List ℕ → Option Fixed
one [] = None
one (a ∷ rest) = spelled_so singles (a ∷ [])

-- the punctuator of two bytes at the front
abbrev pub two : List ℕ → Option Fixed
two [] = None
two (a ∷ []) = None
two (a ∷ b ∷ rest) = spelled_so doubles (a ∷ b ∷ [])

-- the punctuator of three bytes at the front
abbrev pub three : List ℕ → Option Fixed
three [] = None
three (a ∷ []) = None
three (a ∷ b ∷ []) = None
three (a ∷ b ∷ c ∷ rest) = spelled_so triples (a ∷ b ∷ c ∷ [])

-- a punctuator with its length, or else the alternative
abbrev pub with_length : ℕ → Option Fixed → Option (Fixed × ℕ) → Option (Fixed × ℕ)
with_length n None other = other
with_length n (Some m) other = Some (m, n)

-- the longest punctuator at the front, and its length
abbrev pub punctuator_at : List ℕ → Option (Fixed × ℕ)
punctuator_at rest = with_length 3 (three rest) (with_length 2 (two rest) (with_length 1 (one rest) None))

-- no piece but a punctuator can begin here: not white space, a word, a constant, a directive, a string or a comment
pub record NoOtherPiece (rest : List ℕ) : Type 0 where
  pub white : is_white (slice_index rest 0) ≡ false
  pub letter : is_letter (slice_index rest 0) ≡ false
  pub digit : is_digit (slice_index rest 0) ≡ false
  pub number : slice_index rest 0 ≢ 35
  pub quote : slice_index rest 0 ≢ 34
  pub slash : slice_index rest 0 ≡ 47 → (slice_index rest 1 ≢ 42) × (slice_index rest 1 ≢ 47)
