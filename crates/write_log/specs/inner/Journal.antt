-- What puts have changed, the first change first, and what undoing it leaves.
use Rattle.std.specs.Prelude.{◌<◌, ◌≤◌, ◌-◌, min, ℕ, List, [], ◌∷◌, length, take, drop, slice_index, slice_index_or}
use Rattle.std.specs.Prelude.{slice_set}
use Rattle.write_log.specs.declared.pairs.Change.{Change}
use Rattle.write_log.specs.declared.pairs.Change.TheVariants.{Added, Replaced}

-- the list before a change
abbrev pub undone : Change → List (ℕ × ℕ) → List (ℕ × ℕ)
undone Added ps = take (length ps - 1) ps
undone (Replaced index word) ps = slice_set ps index ((slice_index_or ps index (0, 0)).0, word)

-- the change may have been the last one
abbrev pub CanUndo : Change → List (ℕ × ℕ) → Type 0
CanUndo Added ps = 0 < length ps
CanUndo (Replaced index word) ps = index < length ps

-- the list before all changes: the last one is undone first
abbrev pub all_undone : List Change → List (ℕ × ℕ) → List (ℕ × ℕ)
all_undone [] ps = ps
all_undone (c ∷ cs) ps = undone c (all_undone cs ps)

abbrev pub CanUndoAll : List Change → List (ℕ × ℕ) → Type 0
CanUndoAll [] ps = Unit {0}
CanUndoAll (c ∷ cs) ps = CanUndoAll cs ps × CanUndo c (all_undone cs ps)

-- the list when the journal had this length
abbrev pub list_at : List Change → List (ℕ × ℕ) → ℕ → List (ℕ × ℕ)
list_at journal ps n = all_undone (drop n journal) ps

-- a mark is the journal's length, none shorter than the one before, and the journal leads back to each
pub record IsJournalOf (pairs : List (ℕ × ℕ)) (journal : List Change) (marks : List ℕ) : Type 0 where
  pub rising : (i j : ℕ) → i ≤ j → j < length marks → slice_index marks i ≤ slice_index marks j
  pub within : (i : ℕ) → i < length marks → slice_index marks i ≤ length journal
  pub undoes : (i : ℕ) → i < length marks → CanUndoAll (drop (slice_index marks i) journal) pairs

-- for how many puts there is room: one for each pair and, while there is a mark, for each change
abbrev pub room_by : List ℕ → ℕ → ℕ → ℕ
room_by [] pairs changes = pairs
room_by (m ∷ ms) pairs changes = min pairs changes
