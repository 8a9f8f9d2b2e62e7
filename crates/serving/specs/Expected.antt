-- Whether a list of outcomes is the expected one.
use Rattle.std.specs.Prelude.{◌≡◌, ℕ, List, codes}
use Rattle.differences.specs.Texts.{IsFirstDifference, difference_text}

-- the output reports that this is the list of all outcomes
abbrev pub SaysExpected : (IsWhole : List ℕ → Type 0) → (expected written : List ℕ) → Type 0
SaysExpected IsWhole expected written = IsWhole expected × (written ≡ codes "as expected\n")

-- the output shows the first line in which the list of all outcomes differs from this one
abbrev pub ShowsUnexpected : (IsWhole : List ℕ → Type 0) → (expected written : List ℕ) → Type 0
ShowsUnexpected IsWhole expected written = (found : List ℕ) × (at : ℕ) × IsWhole found
    × IsFirstDifference expected found at
    × (written ≡ difference_text (codes "expected") (codes "found") expected found at)
