-- The first line in which a text differs from the expected one.
use Rattle.std.specs.Prelude.{◌≡◌, ◌≢◌, ◌==◌, ◌||◌, ◌++◌, ◌+◌, ℕ, List, Option, None, Some, codes, decimal, if◌then◌else◌}
use Rattle.std.specs.Prelude.{map, nat_lt, slice_get, take}
use Rattle.std.specs.List.{slice_split}

-- the text between the ends of lines
abbrev pub text_lines : List ℕ → List (List ℕ)
text_lines text = slice_split (λ b. b == 10) text

-- two lists are the same before this index, counted from 0, and differ at it; one of them may end before it
pub record DifferFirstAt (due found : List (List ℕ)) (at : ℕ) : Type 0 where
  pub same : take at due ≡ take at found
  pub differs : slice_get due at ≢ slice_get found at

-- two texts have the same lines before this one, and differ in this one
abbrev pub IsFirstDifference : (due found : List ℕ) → ℕ → Type 0
IsFirstDifference due found at = DifferFirstAt (text_lines due) (text_lines found) at

-- a byte as it is shown: a control character as a question mark
abbrev pub shown_byte : ℕ → ℕ
shown_byte b = if nat_lt b 32 || b == 127 then 63 else b

-- a text's line, or the statement that the text ends before it
abbrev pub side_text : (name : List ℕ) → Option (List ℕ) → List ℕ
side_text name (Some line) = name ++ codes ": " ++ map shown_byte line ++ codes "\n"
side_text name None = name ++ codes " ends\n"

-- the number of a line, counted from 1, and the line on each side, after its name
abbrev pub sides_text : (name other : List ℕ) → (due found : List (List ℕ)) → ℕ → List ℕ
sides_text name other due found at = codes "line " ++ decimal (at + 1) ++ codes " differs\n"
    ++ side_text name (slice_get due at) ++ side_text other (slice_get found at)

abbrev pub difference_text : (name other : List ℕ) → (due found : List ℕ) → ℕ → List ℕ
difference_text name other due found at = sides_text name other (text_lines due) (text_lines found) at
