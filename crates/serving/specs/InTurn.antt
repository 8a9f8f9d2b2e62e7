-- Answers for several numbers of threads, one after another.
use Rattle.std.specs.Prelude.{◌≡◌, ◌≢◌, ◌⊎◌, ◌++◌, ◌-◌, ℕ, zero, suc, List, Option}
use Rattle.command.specs.declared.request.ThreadRange.{ThreadRange}

-- The meaning of a status for a number of threads and this many numbers after it. The search is repeated for each
-- number in turn, up to the first whose status is not 0. The status is that of the last search. Each answer follows the
-- one before.
module _ (Says : (threads status : ℕ) → (old new : Option (List ℕ)) → Type 0) where
  abbrev pub SaysInTurn : (more threads status : ℕ) → (old new : Option (List ℕ)) → Type 0
  SaysInTurn zero threads status old new = Says threads status old new
  SaysInTurn (suc more) threads status old new = ((status ≢ 0) × Says threads status old new)
      ⊎ ((between : Option (List ℕ)) × Says threads 0 old between × SaysInTurn more (suc threads) status between new)

  -- for each number of a range
  abbrev pub SaysOfRange : ThreadRange → (status : ℕ) → (old new : Option (List ℕ)) → Type 0
  SaysOfRange range status old new = SaysInTurn (range.last - range.first) range.first status old new

-- texts for a number of threads, and for some of this many numbers after it, one after another
module _ (IsText : (threads : ℕ) → List ℕ → Type 0) where
  abbrev pub AreTextsInTurn : (more threads : ℕ) → List ℕ → Type 0
  AreTextsInTurn zero threads written = IsText threads written
  AreTextsInTurn (suc more) threads written = IsText threads written
      ⊎ ((first rest : List ℕ) × IsText threads first × AreTextsInTurn more (suc threads) rest
      × (written ≡ first ++ rest))

  -- for the first of the numbers of a range
  abbrev pub AreTextsOfRange : ThreadRange → List ℕ → Type 0
  AreTextsOfRange range written = AreTextsInTurn (range.last - range.first) range.first written
