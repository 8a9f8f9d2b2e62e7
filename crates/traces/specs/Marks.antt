-- The cells that a turn reads and writes.
use Rattle.std.specs.Prelude.{ℕ, zero, suc, ◌==◌, Bool, true, false, not, ◌||◌, List, [], ◌∷◌, ◌++◌, length}
use Rattle.std.specs.Prelude.{if◌then◌else◌, slice_index_or}
use Rattle.syntax.specs.Behaviours.{Memory}
use Rattle.traces.specs.Turns.{Mark}

module _ (reads writes : List Bool) (found left : Memory) where
  -- the mark of a cell: written if its word differs, or if it is among the writes; else read if it is among the reads
  abbrev pub mark_at : ℕ → List Mark
  mark_at c =
      let before = slice_index_or found c 0 in
      let after = slice_index_or left c 0 in
      if not (before == after) || slice_index_or writes c false
      then record { cell = c; found = before; left = after; is_written = true } ∷ []
      else if slice_index_or reads c false
      then record { cell = c; found = before; left = after; is_written = false } ∷ []
      else []

  -- the marks of the first n cells
  abbrev pub marks_to : ℕ → List Mark
  marks_to zero = []
  marks_to (suc n) = marks_to n ++ mark_at n

-- the marks of all cells, for a turn that found one memory and left another
abbrev pub marks_of : (reads writes : List Bool) → (found left : Memory) → List Mark
marks_of reads writes found left = marks_to reads writes found left (length left)
