-- Listing the code of a source's text.
use Rattle.std.specs.Prelude.{◌≡◌, ℕ, List, Option}
use Rattle.std.specs.Io.KnownBytes.{Appends}
use Rattle.bytecode.specs.Code.{Code}
use Rattle.bytecode.specs.Listing.{listing}
use Rattle.serving.specs.Codes.{Compiles}

-- a listing of the code of a source's text
pub record ShowsListing (text listed : List ℕ) : Type 0 where
  pub code : Code
  pub compiled : Compiles text code
  pub lists : listed ≡ listing code

-- the status 0 reports that a listing was written
abbrev pub PrintsListing : List ℕ → ℕ → Option (List ℕ) → Option (List ℕ) → Type 0
PrintsListing text status old new = status ≡ 0 → (listed : List ℕ) × ShowsListing text listed × Appends old new listed
