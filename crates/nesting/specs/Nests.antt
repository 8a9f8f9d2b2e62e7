-- The contracts' view of an attempt's logs and begins: NOrec's two logs, and checkpoints of the write log for the inner
-- transactions, which NOrec does not have.
use Rattle.std.specs.Prelude.{◌≡◌, ◌≤◌, ℕ, Bool, List, [], ◌∷◌}
use Rattle.nesting.specs.Begins.{Saved, Checkpoint}

-- the open begins
pub record OpenBegins : Type 0 where
  pub saved : Saved  -- at the outermost begin
  pub inner : List (Checkpoint Saved)  -- the inner begins, the innermost first

-- an attempt, and the spare capacity for inner begins, reads and writes
pub record Nest : Type 0 where
  pub begins : OpenBegins
  pub aside : Saved  -- the state that the next begin saves, or that the last cancel or abort returns to
  pub reads : List (ℕ × ℕ)  -- the read log
  pub writes : List (ℕ × ℕ)  -- the write log
  pub kept : Bool  -- whether an irrevocable took the lock
  pub begin_room : ℕ
  pub read_room : ℕ
  pub write_room : ℕ

-- all but the capacity is unchanged, and no capacity is lost
pub record GainsRoom (old new : Nest) : Type 0 where
  pub begins : new.begins ≡ old.begins
  pub aside : new.aside ≡ old.aside
  pub reads : new.reads ≡ old.reads
  pub writes : new.writes ≡ old.writes
  pub kept : new.kept ≡ old.kept
  pub begin_room : old.begin_room ≤ new.begin_room
  pub read_room : old.read_room ≤ new.read_room
  pub write_room : old.write_room ≤ new.write_room

-- A cancel has removed the inner begins before these, and the first of these: its write log is restored, its saved
-- state is set aside, and the others are open. If none is left, the outermost begin is removed too, and its saved state
-- is set aside; the write log then stays, unused.
abbrev pub IsCancelled : (old : Nest) → List (Checkpoint Saved) → (new : Nest) → Type 0
IsCancelled old [] new = (new.aside ≡ old.begins.saved) × (new.writes ≡ old.writes)
IsCancelled old (l ∷ ls) new =
    (new.begins ≡ record { saved = old.begins.saved; inner = ls }) × (new.aside ≡ l.saved) × (new.writes ≡ l.writes)
