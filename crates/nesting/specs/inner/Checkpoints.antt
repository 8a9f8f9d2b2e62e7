-- The inner begins in two lists: the saved state of each and the write log at that time, the outermost first.
use Rattle.std.specs.Prelude.{ℕ, List, [], ◌∷◌}
use Rattle.nesting.specs.Begins.{Saved, Checkpoint}

-- these checkpoints with those of the lists in front, the last one first
abbrev pub checkpoints : List (Checkpoint Saved) → List Saved → List (List (ℕ × ℕ)) → List (Checkpoint Saved)
checkpoints outer [] marks = outer
checkpoints outer (s ∷ ss) [] = outer
checkpoints outer (s ∷ ss) (m ∷ ms) = checkpoints (record { saved = s; writes = m } ∷ outer) ss ms
