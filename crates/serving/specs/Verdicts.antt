-- Verdicts: whether something holds or not, by an exit status and by what is written.
use Rattle.std.specs.Prelude.{◌≡◌, ◌⊎◌, ℕ, List, Option}
use Rattle.std.specs.Io.KnownBytes.{Appends}

-- the status 0 reports that it holds, and 5 that it does not
pub record Tells (IsSo IsNot : List ℕ → Type 0) (status : ℕ) (old new : Option (List ℕ)) : Type 0 where
  pub so : status ≡ 0 → (written : List ℕ) × IsSo written × Appends old new written
  pub not_so : status ≡ 5 → (written : List ℕ) × IsNot written × Appends old new written

-- what is written for it
abbrev pub IsEither : (IsSo IsNot : List ℕ → Type 0) → List ℕ → Type 0
IsEither IsSo IsNot written = IsSo written ⊎ IsNot written
