-- Definitions: what `NAME=VALUE` says.
use Rattle.std.specs.Prelude.{◌≡◌, ◌⊎◌, ◌<◌, ◌==◌, ℕ, List, ◌∷◌, Option, Some, false, true, codes, length, string_bytes, if◌then◌else◌}
use Rattle.std.specs.List.{after_first, before_first}
use Rattle.std.specs.Str.Parse.{IsNumeral, digits_value}
use Rattle.lex.specs.Tokens.{Tok}
use Rattle.lex.specs.Pieces.{IsLexed}
use Rattle.parameters.specs.declared.definition.Definition.{Definition}
use Rattle.parameters.specs.declared.definition.Number.{Number}
use Rattle.parameters.specs.Puts.{has_name}

-- decimal digits alone, and their number, which is below 2 ^ 63
abbrev pub IsMagnitude : List ℕ → ℕ → Type 0
IsMagnitude digits n = IsNumeral 10 digits × (digits_value 10 digits ≡ n) × (n < 9223372036854775808)

-- digits, after a minus if their number is negative
abbrev pub IsSigned : List ℕ → Number → Type 0
IsSigned value n = (digits : List ℕ) × (value ≡ (if n.is_negative then 45 ∷ digits else digits))
    × IsMagnitude digits n.magnitude

-- a value is `threads`, for the number of threads if there is a single one, or the digits of a number
abbrev pub IsValue : (threads : Option ℕ) → List ℕ → Number → Type 0
IsValue threads value n =
    (value ≡ codes "threads") × (threads ≡ Some n.magnitude) × (n.is_negative ≡ false) ⊎ IsSigned value n

-- a single token, which is this name
abbrev pub IsNameAlone : List ℕ → List Tok → Type 0
IsNameAlone word ts = (length ts ≡ 1) × (has_name word ts ≡ true)

-- a name of the language, and no keyword
abbrev pub IsName : List ℕ → Type 0
IsName word = (ts : List Tok) × IsLexed word ts × IsNameAlone word ts

-- the parts of a word before its first `=` and after it
abbrev pub name_part : List ℕ → List ℕ
name_part word = before_first (λ b. b == 61) word

abbrev pub value_part : List ℕ → List ℕ
value_part word = after_first (λ b. b == 61) word

-- a word is a name, `=` and a value
pub record IsDefinition (threads : Option ℕ) (word : List ℕ) (d : Definition) : Type 0 where
  pub name_is : string_bytes d.name ≡ name_part word
  pub named : IsName (name_part word)
  pub number_is : IsValue threads (value_part word) d.number
