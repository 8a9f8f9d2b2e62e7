-- A text with numbers in place of names.
use Rattle.std.specs.Prelude.{◌≡◌, ◌-◌, ◌++◌, ℕ, Bool, true, false, List, [], ◌∷◌, Option, Some, None, length, take, drop, replicate, decimal}
use Rattle.std.specs.Prelude.{string_bytes, if◌then◌else◌}
use Rattle.std.specs.Str.{bytes_eq}
use Rattle.lex.specs.Laws.{slice}
use Rattle.lex.specs.Tokens.{Terminal, Tok}
use Rattle.lex.specs.Tokens as tokens
use Rattle.lex.specs.Pieces.{IsLexed}
use Rattle.parameters.specs.declared.definition.Definition.{Definition}
use Rattle.parameters.specs.declared.definition.Number.{Number}

-- the digits of a number, after a blank and a minus if it is negative
abbrev pub written : Number → List ℕ
written n = if n.is_negative then 32 ∷ 45 ∷ decimal n.magnitude else decimal n.magnitude

-- a text with blanks after it, up to a width
abbrev pub padded : List ℕ → ℕ → List ℕ
padded text width = text ++ replicate (width - length text) 32

-- the number of the first definition of a name
abbrev pub number_for : List Definition → List ℕ → Option Number
number_for [] name = None
number_for (d ∷ ds) name = if bytes_eq (string_bytes d.name) name then Some d.number else number_for ds name

-- a number in place of a name of so many bytes, if there is one, or else these bytes
abbrev pub put_name : Option Number → ℕ → List ℕ → List ℕ
put_name None width bytes = bytes
put_name (Some n) width bytes = padded (written n) width

-- a token by its kind and its bytes: a name that is defined is replaced by its number, as wide as the name or wider
abbrev pub put_token : List Definition → Terminal → List ℕ → List ℕ
put_token ds (tokens.name w) bytes = put_name (number_for ds w) (length w) bytes
put_token ds (tokens.constant n t) bytes = bytes
put_token ds (tokens.string_literal w) bytes = bytes
put_token ds (tokens.fixed f) bytes = bytes
put_token ds tokens.reserved bytes = bytes

-- a text from an offset on, with these tokens: what lies between them, comments too, stays
abbrev pub put_from : List Definition → List ℕ → (from : ℕ) → List Tok → List ℕ
put_from ds text from [] = drop from text
put_from ds text from (t ∷ ts) = take (t.span.start - from) (drop from text)
    ++ (put_token ds t.terminal (slice text t.span) ++ put_from ds text t.span.«end» ts)

-- A text with numbers in place of the names among its tokens. A text that has no tokens stays as it is.
pub record IsPutIn (ds : List Definition) (text new : List ℕ) : Type 0 where
  pub put : (ts : List Tok) → IsLexed text ts → new ≡ put_from ds text 0 ts
  pub others : ((ts : List Tok) → IsLexed text ts → ⊥) → new ≡ text

-- a token is this name
abbrev pub is_of_name : List ℕ → Terminal → Bool
is_of_name name (tokens.name w) = bytes_eq w name
is_of_name name (tokens.constant n t) = false
is_of_name name (tokens.string_literal w) = false
is_of_name name (tokens.fixed f) = false
is_of_name name tokens.reserved = false

-- one of these tokens is this name
abbrev pub has_name : List ℕ → List Tok → Bool
has_name name [] = false
has_name name (t ∷ ts) = if is_of_name name t.terminal then true else has_name name ts

-- a text, if it has tokens, has this name among them
abbrev pub IsUsedIn : (text name : List ℕ) → Type 0
IsUsedIn text name = (ts : List Tok) → IsLexed text ts → has_name name ts ≡ true
