-- Where a string ends.
use Rattle.std.specs.Prelude.{◌≡◌, ℕ, ◌<◌, List, ◌∷◌, ◌++◌, length, take, slice_index, Option, Some, None}
use Rattle.lex.specs.Pieces.{IsStringBody}

-- no prefix that a string may contain has a quote after it
abbrev pub Unclosed : List ℕ → Type 0
Unclosed rest = (inner more : List ℕ) → rest ≡ inner ++ 34 ∷ more → IsStringBody inner → ⊥

-- the length of the prefix that a string may contain and that has a quote after it
abbrev pub GivesInside : List ℕ → Option ℕ → Type 0
GivesInside rest (Some n) = (n < length rest) × IsStringBody (take n rest) × (slice_index rest n ≡ 34)
GivesInside rest None = Unclosed rest
